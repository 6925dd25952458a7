pub mod Traces
pub mod Choices
pub mod Laws
