pub mod Stages
pub mod Reading
pub mod States
pub mod Laws
