pub mod WalkSets
pub mod RankLaws
pub mod CheckLaws
pub mod SearchLaws
pub mod Examples
