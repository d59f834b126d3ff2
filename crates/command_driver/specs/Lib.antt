pub mod Answers
pub mod Commands
pub mod Driving
pub mod Responding
pub mod Statuses
