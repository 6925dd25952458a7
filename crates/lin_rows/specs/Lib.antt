pub mod Rows
pub mod Sums
pub mod Tightening
pub mod Combinations
pub mod Negating
pub mod Points
pub mod Systems
pub mod Ties
