pub mod Lines
pub mod Plain
pub mod Worked
