pub mod CallLists
pub mod Ties
