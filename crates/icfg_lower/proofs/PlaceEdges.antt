pub mod LeadLemmas
pub mod FrameConstants
