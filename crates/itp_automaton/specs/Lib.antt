pub mod Certified
pub mod Saturated
pub mod Making
pub mod Settling
pub mod Words
pub mod Ties
