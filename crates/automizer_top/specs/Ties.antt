pub mod Asked
pub mod PartViews
pub mod Answers
pub mod EarlierViews
