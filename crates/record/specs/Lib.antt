pub mod Calls
pub mod Instructions
pub mod Law
pub mod Written
