mod TightLaws
mod KnowledgeLaws
mod JumpLaws
mod TakenLaws
mod StatementLaws
mod ProcedureLaws
mod PlaceLaws
mod MoreLaws
pub mod KnownWorth
pub mod FrameWorth
pub mod ClauseWorth
pub mod ReadingWorth
pub mod BuiltExpressions
pub mod RowExpressions
pub mod FactExpressions
pub mod KnownRuns
pub mod ExplainedRuns
