pub mod AtStatement
pub mod Seeking
