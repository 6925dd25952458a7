pub mod Mirrors
pub mod Stretches
pub mod Scenes
