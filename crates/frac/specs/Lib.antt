pub mod Fractions
pub mod Sums
pub mod Signs
pub mod Ties
