pub mod Searching
pub mod Picking
pub mod Alike
pub mod CutCounts
