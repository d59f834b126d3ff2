pub mod Exit
pub mod Login
pub mod Runs
