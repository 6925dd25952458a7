pub mod Versions
pub mod Paths
pub mod Stages
pub mod Drafts
pub mod Solutions
