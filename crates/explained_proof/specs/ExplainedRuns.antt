pub mod Laws
pub mod Sited
