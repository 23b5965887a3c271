pub mod Faithful
pub mod Leaves
pub mod Lexing
pub mod Numbers
pub mod Tables
