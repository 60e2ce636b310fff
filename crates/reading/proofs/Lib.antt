pub mod Views
pub mod Runs
pub mod ReadLaws
pub mod Counted
