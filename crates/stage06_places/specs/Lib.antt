pub mod Leap
pub mod Rounds
