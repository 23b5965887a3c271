pub mod Banks
pub mod Conditions
pub mod Faults
pub mod Registers
pub mod Shifts
pub mod Status
