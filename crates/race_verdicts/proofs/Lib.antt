mod Accepted
mod FailureLaws
mod NoneLeft
mod StartBodies
mod Written
pub mod RaceCompleteness
