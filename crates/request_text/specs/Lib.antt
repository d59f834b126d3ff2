pub mod Captures
pub mod Keys
pub mod Laws
pub mod Packets
pub mod Radius
