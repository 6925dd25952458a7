pub mod Walking
pub mod Exposing
