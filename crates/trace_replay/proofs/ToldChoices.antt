pub mod PlaceKinds
pub mod Steps
pub mod ReadLetters
pub mod Ways
pub mod Told
pub mod Turns
