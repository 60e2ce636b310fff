pub mod Settling
pub mod Hosts
pub mod Running
