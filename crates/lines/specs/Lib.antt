pub mod Admission
pub mod Forms
pub mod Lines
pub mod Moved
pub mod Operands
