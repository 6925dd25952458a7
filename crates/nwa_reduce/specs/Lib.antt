pub mod Ways
pub mod Lean
pub mod Images
pub mod Ties
