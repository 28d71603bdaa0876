pub mod Keys
pub mod Leapt
pub mod Ranked
