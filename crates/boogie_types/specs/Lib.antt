pub mod Meanings
pub mod Naming
pub mod Sorted
pub mod Resolved
pub mod BrokenNames
pub mod Ties
