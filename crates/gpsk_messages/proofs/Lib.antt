-- The grammar at worked values.
mod Worked
-- A field that is read is the field that is spelled, and what is spelled is read again.
pub mod FieldLaws
-- The messages: what is read is spelled so, and what is spelled so is read.
pub mod Reader
-- The laws of the grammar.
pub mod Grammar
-- Where the covered octets of a message stand in its Type-Data.
pub mod MacParts
