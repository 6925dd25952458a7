pub mod Fronts
pub mod NamedTexts
