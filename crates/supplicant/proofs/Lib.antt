mod Discards
mod Feeding
mod Frames
mod Objects
mod Reports
mod Worked
