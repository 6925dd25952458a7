pub mod Chains
pub mod Conjunctions
pub mod Owned
pub mod ChainWorth
pub mod TruthLaws
