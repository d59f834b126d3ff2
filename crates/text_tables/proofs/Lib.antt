-- The users with one more.
pub mod Adding
-- The first fault of many words is the earliest of their first faults.
mod Earliest
-- What one more digit, or one more pair of hex digits, adds.
mod FieldLemmas
-- The first of a list of faults, and what the words of a line without one are.
pub mod Bounded
-- A line is refused with the first fault that it has, by its keyword, its words and its place, and
-- taken where it has none.
pub mod Judging
-- The users that words name have visible names, and keys of their methods' sizes.
pub mod NamedUsers
-- A line of a text, step by step: it is the header, or passed over, or its keyword, its words and
-- its place decide.
pub mod Reading
