pub mod Parts
pub mod FreeConditions
pub mod View
pub mod Laws
pub mod Ties
