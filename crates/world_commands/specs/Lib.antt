pub mod Bulk
pub mod Headline
pub mod Replay
pub mod Scenario
pub mod SmoothTraces
pub mod Whole
