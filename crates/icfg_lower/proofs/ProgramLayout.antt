pub mod CountLaws
pub mod PlaceCounts
pub mod FitLaws
pub mod ListLaws
pub mod ColumnLaws
