pub mod Number
pub mod Parts
pub mod Lines
pub mod Words
pub mod Fields
pub mod Put
