pub mod Calls
pub mod Conditions
pub mod Bounds
pub mod Walks
