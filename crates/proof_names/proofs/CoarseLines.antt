pub mod MarkLaws
pub mod OrderLaws
pub mod Rows
pub mod ToldLaws
