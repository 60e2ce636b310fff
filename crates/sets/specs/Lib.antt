pub mod Masks
pub mod Least
