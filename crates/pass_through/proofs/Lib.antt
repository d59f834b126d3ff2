-- What the pass-through makes of an input is one of the rows of its table.
pub mod PassRows
-- The laws of the pass-through, by the rows of its table.
pub mod Carrying
-- Each packet that it sends over all that comes to it is its Identity Request, or came to it.
pub mod Running
