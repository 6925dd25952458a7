mod WordLaws
mod ScopeLaws
mod ProvingLaws
mod ListLaws
mod NumberLaws
mod EdgeLaws
mod UnionLaws
mod KeyLaws
mod TripleLaws
mod SpreadLaws
mod ReachLaws
mod NeedLaws
mod BuildLaws
pub mod ProofUnwind
