pub mod Rounding
pub mod RoundedPoints
pub mod DecidedDifferences
