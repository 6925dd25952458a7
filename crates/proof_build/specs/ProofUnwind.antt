pub mod Unwindings
pub mod Exploring
pub mod Spots
pub mod Renumbering
pub mod Ties
