pub mod Addresses
pub mod Choices
