pub mod Options
pub mod Scopes
pub mod Sums
pub mod Cases
pub mod Rows
pub mod Views
pub mod Worth
