pub mod Message
pub mod Reading
pub mod Laws
pub mod Plain
