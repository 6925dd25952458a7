pub mod RankingSystem
pub mod Scaled
