pub mod Behind
pub mod Followed
pub mod Modes
pub mod Unless
pub mod Words
