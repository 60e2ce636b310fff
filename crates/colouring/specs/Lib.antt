pub mod Colouring
pub mod Chosen
pub mod Consistency
pub mod Searches
pub mod Graphs
