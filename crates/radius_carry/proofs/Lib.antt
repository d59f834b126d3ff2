-- Worked values of the definitions.
mod Worked
-- The attributes that octets hold.
pub mod ReadAttributes
-- What it means that no cause applies.
pub mod Causes
-- Octets that begin with a packet have its spelling as their front.
pub mod Fronts
-- What the loop over a secret leaves of a block.
pub mod Blocks
-- Where the tag of a packet stands, and what its authenticators cover.
pub mod Places
-- The tests of a packet's authenticators say what they are for.
pub mod Goodness
-- An EAP packet in attributes EAP-Message, and the attributes round it.
pub mod Pieced
-- The laws of the grammar.
pub mod Grammar
-- What is written is read back, and is good.
pub mod Sent
