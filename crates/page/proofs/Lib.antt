pub mod Callings
pub mod Fits
