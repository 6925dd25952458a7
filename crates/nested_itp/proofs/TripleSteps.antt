pub mod ColumnLaws
pub mod RoleLaws
pub mod GapLaws
pub mod BoundLaws
pub mod ReadingLaws
pub mod LetterLaws
pub mod StepLaws
pub mod JoinLaws
