pub mod Answers
pub mod Rows
pub mod Spellings
pub mod Steps
