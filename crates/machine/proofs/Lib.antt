pub mod Frames
pub mod Ranges
pub mod Steps
pub mod Rules
pub mod Runs
