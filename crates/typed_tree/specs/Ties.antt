pub mod FormView
pub mod FormOrder
pub mod BrokenOperation
pub mod Merging
