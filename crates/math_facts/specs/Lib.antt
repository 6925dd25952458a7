pub mod Fits
pub mod Terms
pub mod Optional
