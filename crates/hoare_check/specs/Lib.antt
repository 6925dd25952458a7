pub mod Decided
pub mod Halves
pub mod Ties
