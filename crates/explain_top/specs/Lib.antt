pub mod CommandLine
pub mod Report
pub mod Claims
pub mod RunStory
pub mod TraceStory
pub mod Ties
