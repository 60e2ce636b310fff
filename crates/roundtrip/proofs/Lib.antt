pub mod Sizes
pub mod WriteLaws
