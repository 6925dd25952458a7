pub mod Lassos
pub mod Ranks
pub mod Outcomes
pub mod Ties
