-- Lists of sixteen octets.
mod Lanes
-- What is taken in as a text grows.
mod Growing
-- The last block, and the tag of what is taken in.
mod Tag
-- A text that is fed piece by piece.
pub mod Pieces
-- The size of a tag, for those who cut it or send it.
pub mod Laws
-- The definition gives the standard's examples with no octet and with forty (RFC 4493, section 4).
mod Example
