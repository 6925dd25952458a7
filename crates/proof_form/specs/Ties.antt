pub mod TextViews
pub mod TreeViews
pub mod TreeWriting
