pub mod DecisionLaws
pub mod CutLaws
pub mod CutNumbers
pub mod Opening
pub mod Enough
pub mod Tight
pub mod Points
pub mod Refuting
pub mod Worths
pub mod Exactness
mod Examples
pub mod FewCuts
pub mod TightRows
pub mod RowsDecided
pub mod StepsLeft
pub mod Advancing
pub mod Broken
pub mod TaskLists
pub mod WholePoints
pub mod Coming
pub mod Closing
pub mod SizeLaws
pub mod Rationals
pub mod Numerators
pub mod PickedValues
pub mod Alikes
mod SearchSteps
mod ShownValues
mod CutSteps
pub mod RationalPoints
pub mod DifferenceRows
