pub mod ReadLemmas
pub mod KeptLemmas
pub mod OnceLemmas
pub mod NotedLemmas
