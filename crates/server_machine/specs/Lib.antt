pub mod Variables
pub mod ServerTable
pub mod Expanded
pub mod Inputs
pub mod Rows
pub mod Laws
