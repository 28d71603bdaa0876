pub mod FileAnswers
pub mod Flags
