pub mod Asking
pub mod Verdicts
pub mod Unique
