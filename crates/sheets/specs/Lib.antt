pub mod Texts
pub mod Checks
pub mod Runs
pub mod Examples
