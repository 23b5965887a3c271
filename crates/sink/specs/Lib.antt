pub mod Items
pub mod Lent
pub mod MarkSinks
pub mod Meaning
pub mod Outcome
pub mod Printed
pub mod TextSinks
