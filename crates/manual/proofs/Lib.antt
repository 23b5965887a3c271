pub mod Found
pub mod Plains
