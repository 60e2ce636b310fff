pub mod Soundness
pub mod OneLine
pub mod WholeText
pub mod Wording
pub mod NodeLaws
pub mod SourceLaws
