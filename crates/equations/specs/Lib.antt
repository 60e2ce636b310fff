pub mod Equations
pub mod Questions
pub mod Verdict
pub mod Laws
pub mod Steps
