mod Counts
pub mod Sizes
