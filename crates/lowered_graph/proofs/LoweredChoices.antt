pub mod WholeCalls
pub mod LastStep
pub mod ReadOff
pub mod ToldLetters
pub mod ToldTraces
