pub mod MemShelf
pub mod MemSink
