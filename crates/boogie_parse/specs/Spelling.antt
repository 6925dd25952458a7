pub mod Spelled
pub mod ProgramSpelling
pub mod PrintedTokens
pub mod Respelled
pub mod Parentheses
