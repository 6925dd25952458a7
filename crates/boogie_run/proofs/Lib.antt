pub mod RunLaws
pub mod TypedPoints
pub mod TypedActions
pub mod Constants
pub mod TruthColumns
pub mod TruthActions
pub mod TruthRuns
pub mod Members
pub mod Puts
pub mod Going
pub mod NextLemmas
pub mod Leaving
pub mod FrameLemmas
pub mod FitLemmas
pub mod ToldLemmas
mod WriteSteps
mod TopSteps
mod ValueSteps
mod BodySteps
mod FirstSteps
mod FoundSteps
mod LeaveSteps
mod PastSteps
pub mod BoogiePoints
pub mod BoogiePlaces
pub mod RunDefaults
pub mod RunRules
