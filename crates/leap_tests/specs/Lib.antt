pub mod Settling
pub mod Found
