pub mod Leaner
