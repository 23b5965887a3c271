pub mod Bounds
pub mod Grammar
pub mod Pages
pub mod Sheets
pub mod Worked
