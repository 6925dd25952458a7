pub mod Numbers
pub mod Refutations
pub mod Walked
pub mod Waiting
pub mod Cuts
pub mod Refuting
