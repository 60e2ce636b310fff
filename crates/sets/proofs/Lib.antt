pub mod Masks
pub mod Least
pub mod Turns
