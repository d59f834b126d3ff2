pub mod Policy
pub mod Expanded
pub mod Laws
