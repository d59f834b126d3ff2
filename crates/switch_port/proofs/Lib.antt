-- Rows of the table, computed.
mod Worked
-- A port in mode Auto is opened by an Access-Accept alone.
pub mod Opening
-- A discard changes no variable.
pub mod Discarding
