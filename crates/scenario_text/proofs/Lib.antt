-- No line of the first version tells of a later conversation.
pub mod FirstVersion
-- Lines, and a whole scenario, read by the definitions alone.
mod Samples
-- Settings that come one after another, the values that their lines give, and the users among them.
pub mod Settling
-- What a line can say at each place of a scenario; lines that are read in order are those of a
-- scenario.
pub mod Implying
-- What has been read is within its limits, line by line.
pub mod ValidReading
