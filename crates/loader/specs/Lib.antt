pub mod Live
pub mod Load
