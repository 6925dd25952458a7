pub mod Cuts
mod Items
pub mod Contents
pub mod LetterLaws
mod TermLaws
mod TreeLaws
pub mod LineLaws
pub mod FaultLaws
mod KindLaws
mod AscendLaws
mod NamingLaws
mod WritingLaws
pub mod OneText
mod Examples
pub mod LassoTurns
pub mod RankingSystem
pub mod LassoRanks
