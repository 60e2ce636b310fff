pub mod Loads
pub mod Listed
pub mod Checked
pub mod Runs
pub mod Coloured
