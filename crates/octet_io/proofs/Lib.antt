pub mod Cut
pub mod LineLaws
mod LineRows
pub mod LineState
pub mod Pieces
