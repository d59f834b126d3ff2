-- What a line can say at each place of a capture, and how far the capture has come then.
pub mod CaptureSteps
-- The sizes that the table gives the fields of a request for the keys of EAP-GPSK.
mod GpskSizes
-- What a line asks for: it is refused with the first fault of its words, and taken where they have
-- none.
pub mod KeyJudging
-- Lines, read by the definitions alone.
mod Samples
