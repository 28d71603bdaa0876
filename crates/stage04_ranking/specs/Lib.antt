pub mod Asking
pub mod Leap
pub mod Rounds
