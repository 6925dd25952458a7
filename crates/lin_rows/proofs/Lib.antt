pub mod Contradiction
pub mod Ascending
pub mod SummedLaws
pub mod RowLemmas
pub mod HoldsLaws
pub mod TighteningLaw
mod TighteningLemmas
mod MergingLemmas
mod MakingLemmas
mod RowLists
pub mod PointLemmas
pub mod NegatingLemmas
pub mod SystemLaws
