pub mod Begins
pub mod Rounds
