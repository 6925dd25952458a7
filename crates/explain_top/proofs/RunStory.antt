pub mod LineLemmas
pub mod TableLemmas
pub mod SourceLemmas
pub mod ReadingLemmas
pub mod KeepingLemmas
pub mod ChoosingLemmas
pub mod StepLemmas
pub mod RunLemmas
