-- No line of `bulk N K` begins as the line of the result does.
pub mod BulkQuiet
-- The run of every scenario keeps agreement.
pub mod Headline
-- Reading an input line by line gives the scenario that its octets are.
pub mod Inputs
-- No trace with status 0 has both the line of honest tags and the line of ends that are apart.
pub mod NeverReplayed
-- The methods are there until the world begins, which has an object of each that its setup names.
pub mod Ready
-- Replaying line by line answers what the scenario's run says.
pub mod Replaying
-- Facts on runs.
pub mod Runs
-- The trace of a smooth login ends with agreement.
pub mod SmoothTraces
