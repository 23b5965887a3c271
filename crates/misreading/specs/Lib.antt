pub mod Givens
pub mod Messages
