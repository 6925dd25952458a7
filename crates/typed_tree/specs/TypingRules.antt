pub mod TypedParts
pub mod Rules
pub mod Shape
pub mod Counts
pub mod ValidProgram
pub mod BrokenTyping
pub mod Laws
pub mod Ties
