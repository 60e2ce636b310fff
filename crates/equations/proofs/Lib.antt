pub mod Rows
pub mod Nodes
pub mod Growth
pub mod Visits
pub mod Reach
