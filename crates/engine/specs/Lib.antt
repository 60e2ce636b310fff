pub mod Plain
pub mod Stands
pub mod Held
pub mod Calls
