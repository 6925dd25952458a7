pub mod AllLaws
mod FoundLaws
pub mod NumberLaws
pub mod AtomLaws
pub mod RefutationLaws
pub mod SpelledLaws
pub mod PredLaws
pub mod WidthLaws
mod NodeLaws
pub mod TripleLaws
pub mod PairLaws
pub mod OnceLaws
mod SoFarLaws
pub mod ItemLaws
pub mod OutlineLaws
pub mod CoarseLines
pub mod ProofSpell
