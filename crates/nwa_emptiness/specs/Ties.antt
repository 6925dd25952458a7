pub mod Seen
pub mod Tasks
pub mod Search
pub mod Steps
pub mod Loads
