pub mod Heads
pub mod Pairs
