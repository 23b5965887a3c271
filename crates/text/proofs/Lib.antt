pub mod Branches
pub mod Chosen
pub mod Hex
