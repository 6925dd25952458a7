pub mod CaseLaws
pub mod Gathering
pub mod LoopLaws
pub mod Sides
pub mod SumLaws
pub mod SumWorth
pub mod CaseWorth
pub mod RowWorth
