pub mod Seen
pub mod Stages
pub mod Making
