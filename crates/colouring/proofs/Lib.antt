pub mod Searching
pub mod Steps
pub mod Rows
pub mod Orders
