pub mod Correspond
pub mod Drafts
pub mod Nodes
pub mod Spelled
