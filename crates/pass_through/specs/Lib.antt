pub mod PassTable
pub mod Inputs
pub mod Rows
pub mod Laws
pub mod Runs
pub mod Plain
