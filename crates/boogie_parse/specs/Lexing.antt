pub mod Bytes
pub mod Tokens
pub mod Places
pub mod Pieces
pub mod Attributes
pub mod Lexed
pub mod Slices
pub mod Symbols
