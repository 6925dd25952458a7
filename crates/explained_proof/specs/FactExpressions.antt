pub mod Trees
pub mod Facts
pub mod Disjunctions
pub mod EntryRows
pub mod Conclusions
pub mod Views
pub mod Worth
