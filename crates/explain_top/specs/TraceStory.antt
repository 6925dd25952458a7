pub mod TraceText
pub mod TraceFaults
pub mod TraceStory
pub mod TraceWorth
pub mod Ties
