pub mod Joined
pub mod EndsAlone
