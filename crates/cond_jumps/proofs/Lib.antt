pub mod MeaningLemmas
pub mod QuotientLemmas
pub mod FormLemmas
pub mod DivisionLemmas
pub mod ComparisonLemmas
pub mod ConstantLemmas
pub mod TypeLemmas
pub mod LinearLemmas
pub mod TestLemmas
pub mod OperationLemmas
pub mod PathLemmas
pub mod AssignLemmas
pub mod FrameLemmas
pub mod PassingLemmas
pub mod MovingLemmas
pub mod TermTurns
pub mod EvenLemmas
pub mod ListLemmas
pub mod LongLemmas
pub mod TotalLemmas
pub mod PlaceLemmas
pub mod AnswerLemmas
pub mod ListAnswers
pub mod PlanAnswers
pub mod WidthAnswers
pub mod PairAnswers
mod ShapeFaults
mod ListTurns
mod TotalTurns
mod SumFaults
mod ComparedAnswers
pub mod AssignAnswers
pub mod FreeProducts
