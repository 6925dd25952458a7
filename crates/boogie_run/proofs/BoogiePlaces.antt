pub mod Numbers
pub mod Closed
pub mod Bodies
pub mod Numbering
pub mod PlaceLaws
