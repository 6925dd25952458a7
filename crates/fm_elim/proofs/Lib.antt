pub mod Lists
pub mod Steps
pub mod Multipliers
pub mod Inputs
pub mod Refuting
pub mod FractionLaws
pub mod Clearing
pub mod Ends
pub mod Between
pub mod Extending
pub mod Points
pub mod Soundness
pub mod Picks
pub mod Slicing
pub mod PickedPoints
pub mod Exits
pub mod Coefficients
pub mod StepLemmas
pub mod SetColumnLemmas
pub mod Climbing
pub mod WayBack
pub mod Outcomes
pub mod ValueLemmas
pub mod FoldLaws
pub mod FreeColumns
pub mod Written
mod LoopSteps
mod ColumnSteps
