pub mod Behind
pub mod Inked
pub mod Paintings
pub mod Registers
