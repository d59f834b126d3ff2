pub mod Cmac
pub mod Chained
pub mod Represents
