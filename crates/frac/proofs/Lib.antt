pub mod Factors
pub mod Divisors
pub mod LowestTerms
pub mod Reducing
mod Sharing
mod ProductLaws
mod SignLaws
mod WholeLaws
mod SumLaws
mod FormulaLaws
mod Exits
