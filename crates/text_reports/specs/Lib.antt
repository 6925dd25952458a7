pub mod Refusals
pub mod TypeRefusals
pub mod LoweringRefusals
pub mod ReportTexts
pub mod ReportCases
pub mod Answers
pub mod CommandWords
