pub mod Packet
pub mod Fault
pub mod Tags
pub mod Written
pub mod Laws
pub mod Words
pub mod Place
pub mod Holds
