pub mod Built
pub mod Needs
pub mod Listing
pub mod Unions
pub mod Noted
