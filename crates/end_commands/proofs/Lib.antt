-- Both commands answer, line by line, the text of their end's run.
mod Answering
-- No line of `peer` or `server` begins as the line of the result does.
pub mod EndQuiet
-- Answering line by line is the text of the end's run.
mod Scripted
