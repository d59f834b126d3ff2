pub mod Smooth
pub mod Again
pub mod Trailing
pub mod Restarts
