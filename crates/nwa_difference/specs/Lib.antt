pub mod Covering
pub mod Product
pub mod Ties
