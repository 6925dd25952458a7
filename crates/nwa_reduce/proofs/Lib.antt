pub mod ListLemmas
pub mod NameLemmas
pub mod WayLemmas
pub mod ImageLemmas
pub mod SearchLemmas
pub mod StepLemmas
pub mod TrimLemmas
pub mod CollectLemmas
pub mod MadeLemmas
mod BoundLemmas
pub mod MarkLemmas
pub mod OrderLemmas
pub mod TestLemmas
pub mod NumberLemmas
pub mod ClassLemmas
pub mod VectorLemmas
pub mod MergeLemmas
pub mod ReduceLemmas
mod PlaceLemmas
pub mod FoldLemmas
pub mod EachLemmas
pub mod JoinLemmas
pub mod CopyLemmas
pub mod NumberingLemmas
