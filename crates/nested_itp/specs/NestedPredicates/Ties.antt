pub mod Saved
pub mod Spelled
