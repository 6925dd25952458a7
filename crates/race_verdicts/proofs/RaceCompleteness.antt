pub mod ShortHistories
