pub mod Pairs
pub mod Rounds
