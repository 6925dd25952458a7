pub mod CommandLaws
pub mod ExplainLaws
pub mod StoryOnce
pub mod FailureLaws
pub mod TraceOnce
pub mod RunLaws
pub mod ReportUnique
pub mod MoreLaws
mod Statuses
pub mod RunStory
pub mod TraceStory
