pub mod ExactWords
pub mod TreeCuts
pub mod NoPoints
pub mod Says
pub mod RowsRefuted
pub mod DecideCuts
mod NumbersTaken
