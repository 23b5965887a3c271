pub mod Reached
pub mod Sizes
