pub mod Edges
pub mod States
