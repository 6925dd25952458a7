pub mod Reading
pub mod Standing
pub mod Acting
pub mod Defaults
pub mod Laws
