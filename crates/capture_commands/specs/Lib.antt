pub mod Check
pub mod CheckSteps
pub mod Decode
pub mod Keys
pub mod Pcap
pub mod PcapSteps
pub mod Radius
