pub mod Places
pub mod Publish
pub mod Laws
pub mod Steps
pub mod Homes
