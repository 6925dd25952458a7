pub mod Whole
pub mod SumBelow
pub mod TermLaws
pub mod Division
