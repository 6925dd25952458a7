pub mod Bare
pub mod Branches
pub mod Crossing
pub mod Loops
pub mod Seen
