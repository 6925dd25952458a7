pub mod Sets
pub mod Numbers
pub mod Views
pub mod Choices
pub mod Settling
