pub mod Among
pub mod Sizes
pub mod Suite
