pub mod WalkedParts
pub mod Forms
pub mod Ties
pub mod Faults
