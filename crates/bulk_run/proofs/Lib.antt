-- Objects that are kept are of the same methods.
pub mod TwoRecords
-- The draws go on place by place.
pub mod Drawing
-- What the start and a step of a world leave.
pub mod Stepping
-- A conversation's events and draws, one by one and all together.
pub mod Conversing
-- Ends that are apart have a broken tag.
pub mod Broken
-- Draws, settings and choices, computed from the definitions alone.
mod Worked
