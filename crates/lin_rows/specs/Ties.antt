pub mod Making
pub mod Merging
