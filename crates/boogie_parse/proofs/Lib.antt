pub mod Lexing
pub mod Reading
pub mod Rules
pub mod Faults
pub mod Spelling
