mod Examples
pub mod RowLaws
pub mod FindLaws
pub mod SetLaws
pub mod FoundLaws
pub mod ChoiceLaws
pub mod CandidateLaws
pub mod SettlingLaws
pub mod ReuseLaws
pub mod CommonLaws
pub mod PickLaws
