pub mod ToldPoints
