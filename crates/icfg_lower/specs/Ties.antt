pub mod Built
pub mod Owners
pub mod Bodies
