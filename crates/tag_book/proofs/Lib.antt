-- The book of tags, entry by entry.
pub mod FirstBroken
-- The tags of a book under one key, entry by entry.
pub mod UnderKey
