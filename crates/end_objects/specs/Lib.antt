-- What an object of either method shows.
pub mod Objects
-- When settings are refused, and why.
pub mod Refusals
-- The settings of an end, from what a program gives.
pub mod Settings
