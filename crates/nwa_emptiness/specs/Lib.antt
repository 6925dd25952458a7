pub mod Closed
pub mod Spelled
pub mod Found
pub mod Ties
