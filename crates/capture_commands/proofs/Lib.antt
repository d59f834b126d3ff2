-- No line of `check` begins as the line of the result does.
pub mod CheckQuiet
-- What the command check keeps of the packets answers as the packets themselves do.
pub mod Checking
-- No line of `decode` begins as the line of the result does.
pub mod DecodeQuiet
-- No line of `keys` begins as the line of the result does.
pub mod KeysQuiet
-- A file of captured frames on its way through its records.
pub mod PcapDriving
-- What is kept of a file of captured frames answers as its packets themselves do.
pub mod PcapFound
-- No line of `pcap` begins as the line of honest tags does.
pub mod PcapQuiet
-- The users that the words `pcap NAME KIND HEX ..` name have keys of their methods' sizes, and
-- names within a line.
pub mod PcapUsers
-- No line of `radius` begins as the line of honest tags does.
pub mod RadiusQuiet
