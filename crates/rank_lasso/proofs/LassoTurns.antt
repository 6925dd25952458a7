pub mod WalkLaws
pub mod TurnLaws
pub mod KeptLaws
pub mod MadeLaws
pub mod FitLaws
