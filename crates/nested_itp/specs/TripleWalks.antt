pub mod Claims
pub mod Goals
pub mod Leaves
pub mod Putting
pub mod Spots
pub mod Stops
pub mod Telling
pub mod Ties
