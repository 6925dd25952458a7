pub mod Outcomes
pub mod ExpressionReading
pub mod ListReading
pub mod ListViews
pub mod StatementReading
pub mod ProgramReading
