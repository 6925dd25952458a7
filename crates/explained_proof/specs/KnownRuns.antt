pub mod Reached
pub mod Followed
pub mod Laws
