pub mod Accept
pub mod Count
pub mod Forms
pub mod Adding
pub mod Rows
pub mod Filling
