pub mod Kinds
pub mod Words
pub mod Written
pub mod Hosts
