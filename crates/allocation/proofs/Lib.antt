pub mod OneLine
pub mod ItemLaws
pub mod HeadingLaws
pub mod Pushes
pub mod LineCounts
