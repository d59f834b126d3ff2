-- What a discard leaves, of a call that is one step of the peer's table.
pub mod Discarded
-- Tags that are among those of lists.
pub mod Unmade
-- Two sessions of a server match, by the law of any number of ends.
pub mod Sessions
