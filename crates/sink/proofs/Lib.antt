pub mod Chain
pub mod Lents
pub mod Rows
