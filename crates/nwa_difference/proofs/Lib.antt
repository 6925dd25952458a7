pub mod ProductLemmas
pub mod MakingLemmas
pub mod GrowingLemmas
pub mod EdgeLemmas
pub mod EndLemmas
mod FitLemmas
pub mod AddLemmas
pub mod BeginLemmas
pub mod FollowLemmas
pub mod OpeningLemmas
pub mod PairLemmas
pub mod StageLemmas
pub mod StepLemmas
pub mod DoneLemmas
mod CoverLemmas
