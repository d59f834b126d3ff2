pub mod EndContents
pub mod EndLaws
pub mod EndReading
pub mod EndRun
pub mod EndTable
pub mod Inputs
