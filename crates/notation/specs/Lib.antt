pub mod Notation
pub mod Parsing
pub mod Parts
pub mod Places
pub mod Reads
pub mod Tokens
