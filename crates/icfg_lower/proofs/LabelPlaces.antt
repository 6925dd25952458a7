pub mod LabelNumbers
pub mod LastLabels
pub mod LabelSteps
