pub mod SinkLaws
pub mod Sinks
