pub mod CoarseLetters
