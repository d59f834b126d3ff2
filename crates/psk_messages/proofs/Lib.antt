-- Worked values of the definitions.
mod Worked
-- PCHANNEL: its parts are read off its octets, and its octets are those of its parts.
pub mod ChannelParts
-- The fields of a message: read off its octets, and its octets read off them.
pub mod Fields
-- The laws of the grammar.
pub mod Grammar
