pub mod ListLemmas
pub mod RowLemmas
pub mod LayoutLemmas
pub mod InsideLaws
pub mod CallLaws
pub mod OpenLemmas
pub mod BackLaws
pub mod EdgeLemmas
pub mod HeardLaws
pub mod SaidLaws
pub mod SolvedLaws
pub mod WholeLaws
pub mod LoopLemmas
pub mod DifferLemmas
pub mod StageLemmas
pub mod GoingLemmas
pub mod DraftLemmas
pub mod MakingLemmas
mod WithinLaws
mod BackSteps
mod CallSteps
