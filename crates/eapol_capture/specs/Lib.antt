pub mod Files
pub mod Frames
pub mod Laws
pub mod Parts
pub mod Reading
