pub mod FreeProducts
pub mod Letters
pub mod FrameLetters
pub mod LetterLaws
pub mod FrameLaws
pub mod LetterView
pub mod FreedView
