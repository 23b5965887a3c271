pub mod CellSinks
pub mod InkedLines
pub mod Inks
pub mod Worked
