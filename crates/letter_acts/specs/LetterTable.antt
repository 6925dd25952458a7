pub mod Letters
pub mod Tables
pub mod Ties
