pub mod Plain
pub mod Setup
-- Tests of a suite, a key and a user among the settings of an end.
pub mod Soundness
pub mod Users
