pub mod Matching
pub mod Answered
pub mod Exactly
