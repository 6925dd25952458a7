pub mod Lexing
pub mod Reading
pub mod Rules
pub mod Spelling
pub mod Ties
