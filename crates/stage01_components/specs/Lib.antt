pub mod Near
pub mod Rounds
pub mod Leap
