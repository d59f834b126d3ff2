pub mod Naming
pub mod Codes
pub mod Carrying
