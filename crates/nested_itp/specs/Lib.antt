pub mod NestedPredicates
pub mod NestedRefutations
pub mod TripleSteps
pub mod TripleWalks
pub mod Ties
