pub mod Counted
pub mod Cutting
pub mod Known
pub mod LineSteps
pub mod Lines
pub mod Memory
pub mod Shown
