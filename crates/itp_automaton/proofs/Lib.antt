mod CertifiedLaws
pub mod StateLaws
pub mod EdgeLaws
pub mod BuiltLaws
pub mod MakingLaws
pub mod SourceLaws
pub mod AnswerLaws
pub mod SettlingLaws
pub mod SaturatedLaws
pub mod RunLaws
mod PlaceSteps
mod AssembledSteps
