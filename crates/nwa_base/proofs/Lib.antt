pub mod LetterLemmas
pub mod MemberLemmas
pub mod EdgeLemmas
pub mod PairLemmas
pub mod Steps
pub mod RunLemmas
pub mod WayLemmas
pub mod ReadingLemmas
pub mod TracingLemmas
pub mod StateLemmas
mod NumberHashLemmas
mod LoopLemmas
