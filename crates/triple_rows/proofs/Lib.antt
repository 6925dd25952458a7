pub mod ListLaws
pub mod FormulaLaws
pub mod ReadingLaws
pub mod HoldingLaws
pub mod DraftLaws
pub mod AddingLaws
pub mod TableLaws
mod FilterLaws
mod RowLists
pub mod FrontLaws
pub mod PieceLaws
pub mod BuildingLaws
pub mod SaidLaws
pub mod RowLaws
pub mod StateLaws
pub mod InsideLaws
pub mod CallLaws
pub mod BackLaws
pub mod PlainLaws
pub mod KnownLaws
pub mod LetterLaws
pub mod AgreeingLaws
pub mod ValidLaws
pub mod HalfLaws
