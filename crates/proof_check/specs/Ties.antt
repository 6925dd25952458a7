pub mod Plans
pub mod Firsts
pub mod Covering
pub mod Sound
