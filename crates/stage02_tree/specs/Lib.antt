pub mod Rounds
pub mod LeapRun
