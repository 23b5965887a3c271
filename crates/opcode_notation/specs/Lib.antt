pub mod Opcodes
pub mod Written
