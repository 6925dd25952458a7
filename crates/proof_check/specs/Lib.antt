pub mod Steps
pub mod Described
pub mod Proves
pub mod Checks
pub mod Ties
