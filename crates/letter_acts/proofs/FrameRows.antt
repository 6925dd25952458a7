pub mod RenamingLaws
pub mod RowLaws
pub mod LoopLaws
