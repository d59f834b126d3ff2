-- The size of a result, for those who cut it or send it.
pub mod Laws
-- The definition computed on two test cases of RFC 4231, so that a wrong step in it does not check.
pub mod Vectors
