pub mod Turns
pub mod Stages
pub mod Made
pub mod Claims
