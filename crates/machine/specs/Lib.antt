pub mod Machine
pub mod Laws
pub mod Run
pub mod Steps
