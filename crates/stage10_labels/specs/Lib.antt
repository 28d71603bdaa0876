pub mod Naming
pub mod Rounds
