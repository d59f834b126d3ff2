-- What a choice says of the kind, the suite or the list that is chosen.
pub mod Choices
-- The list of an Expanded Nak by its entries of eight octets.
mod Desiring
-- A CSuite_List by its entries of six octets.
mod Entries
-- The first number of a list that passes a test.
mod Finding
-- Each choice is the first that is allowed, and none is made where none is allowed.
mod Firsts
-- Worked values of the definitions of Expanded Naks.
mod Worked
-- The Types that a server has proposed, of its order and each at most once.
pub mod Proposed
