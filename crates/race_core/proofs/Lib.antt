pub mod Legality
pub mod Interleaved
pub mod Sampled
