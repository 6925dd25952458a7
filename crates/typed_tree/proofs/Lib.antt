pub mod ColumnOrder
pub mod Merged
pub mod Scaled
pub mod Divisors
pub mod Parts
pub mod Broken
pub mod FormParts
pub mod FormValues
pub mod Truths
pub mod Euclidean
mod Copied
mod FormAnswers
mod Sums
pub mod TypingRules
