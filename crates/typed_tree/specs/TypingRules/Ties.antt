pub mod Judged
pub mod CappedCounts
pub mod LabelNumber
pub mod ColumnKey
pub mod Texts
pub mod LabelOrder
