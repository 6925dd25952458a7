pub mod Reading
pub mod Tracing
