pub mod ClosedLemmas
pub mod SpelledLemmas
pub mod PlaceLemmas
pub mod SearchLemmas
pub mod StepLemmas
pub mod WalkLemmas
pub mod TaskLemmas
pub mod FoundLemmas
mod LoadLemmas
