pub mod Parts
pub mod Lists
pub mod Making
pub mod Items
