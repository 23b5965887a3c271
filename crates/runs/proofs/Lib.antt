pub mod Chains
pub mod Lines
pub mod Stores
