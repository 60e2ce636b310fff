pub mod Words
pub mod Headings
pub mod Ranges
pub mod Items
pub mod Allocations
pub mod Lines
pub mod Rendering
pub mod WellFormed
