pub mod Moments
pub mod Conditions
pub mod Steps
pub mod Runs
pub mod Laws
pub mod Ties
