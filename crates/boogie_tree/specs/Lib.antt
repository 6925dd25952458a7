pub mod Tree
pub mod View
pub mod Levels
pub mod Printing
pub mod Apart
pub mod Names
pub mod Places
pub mod Spans
