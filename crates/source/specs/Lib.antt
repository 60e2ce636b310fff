pub mod Nodes
pub mod Words
pub mod Reading
pub mod Tables
pub mod Writing
