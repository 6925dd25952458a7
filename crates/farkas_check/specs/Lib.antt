pub mod Nodes
pub mod Refutes
pub mod Trees
pub mod Walks
pub mod Ties
