pub mod Readings
pub mod Classes
