pub mod Unwindings
pub mod Unwound
pub mod Numbering
pub mod Sketches
pub mod ProofUnwind
pub mod ProofLean
pub mod Ties
