pub mod Packet
pub mod Fault
pub mod Expanded
pub mod Laws
pub mod Words
