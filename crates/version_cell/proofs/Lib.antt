pub mod Sums
pub mod Beginnings
pub mod Lives
pub mod Joined
pub mod Seats
pub mod Steps
pub mod Passing
pub mod Sampled
mod Putting
mod Opened
