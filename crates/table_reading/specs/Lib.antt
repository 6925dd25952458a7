pub mod Numbers
pub mod Parted
pub mod Words
