pub mod Served
pub mod Mixed
