pub mod Ranges
pub mod Flow
pub mod Loading
pub mod Answered
