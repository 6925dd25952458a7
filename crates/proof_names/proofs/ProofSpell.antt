pub mod NumeralLaws
pub mod CorrespondLaws
pub mod ShapeLaws
pub mod NameLaws
pub mod AtomLaws
pub mod RefutationLaws
pub mod TripleLaws
pub mod DraftLaws
