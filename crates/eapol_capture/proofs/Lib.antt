-- A spelled frame carries its packet.
pub mod CarriedPackets
-- How an answer divides what was to be answered.
pub mod Dividing
-- The contents of some files.
mod FileRows
-- A reader of records that hands out octets.
pub mod PassDelivery
-- What is kept of a frame carries the same as the frame.
pub mod StoredFronts
-- The records of octets, one at a time.
pub mod RecordLaws
-- A spelled file is read as what it spells.
pub mod IsEncodingOf
-- Where a read fails, what was handed out decides nothing.
pub mod Waiting
