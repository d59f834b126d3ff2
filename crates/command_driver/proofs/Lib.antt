-- A command on its way through lines.
pub mod Driving
-- How a run ends after a part of its text has been written.
pub mod Endings
-- Answers with status 0 no line of which begins with certain octets.
pub mod Quiet
-- How a call that answers ends.
pub mod Responding
