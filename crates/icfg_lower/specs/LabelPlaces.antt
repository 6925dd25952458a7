pub mod Labels
pub mod Ties
