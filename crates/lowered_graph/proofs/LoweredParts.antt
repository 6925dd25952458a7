pub mod Joining
pub mod OneItem
pub mod ActionArcs
pub mod Numbers
pub mod Statements
pub mod Calls
pub mod Bodies
