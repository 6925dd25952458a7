pub mod Limits
pub mod Ends
pub mod Rounds
pub mod ConcreteWalks
pub mod Ties
