pub mod Instructions
pub mod Lines
