pub mod Counts
pub mod Views
pub mod Passes
pub mod Samples
pub mod Ties
