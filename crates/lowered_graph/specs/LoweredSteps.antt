pub mod ProgramFrames
pub mod Edges
pub mod Stacks
pub mod Moves
