pub mod Operands
pub mod Written
