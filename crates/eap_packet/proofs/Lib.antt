-- Worked values of the definitions.
mod Worked
-- Worked values of the definitions of Expanded Types.
mod WorkedExpanded
-- What it means that no cause applies: each condition by name.
pub mod Faults
-- Octets that begin with a packet have its spelling as their front.
pub mod Fronts
-- The spelling of a packet: how long it is, and that it is read as that packet.
pub mod IsEncodingOf
-- The laws of the grammar.
pub mod Grammar
-- The list of an Expanded Nak by its entries of eight octets.
mod Entries
-- A wrapped packet: its plain form, and its octets.
mod Wrapping
-- Type-Data of the IETF's Types by the fields and by the octets.
mod Vendors
-- The plain form of a packet, and a packet wrapped, are packets.
mod Forms
