pub mod Ends
pub mod Histories
pub mod Races
pub mod Steps
pub mod Interleavings
pub mod Samples
