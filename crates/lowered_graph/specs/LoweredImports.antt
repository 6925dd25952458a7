pub mod Imports
pub mod KnownPoints
pub mod Laws
