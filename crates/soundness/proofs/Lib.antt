pub mod Agree
pub mod Questions
pub mod Located
pub mod Simulation
pub mod Asking
pub mod Standing
pub mod Counting
