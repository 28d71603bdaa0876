pub mod Level
pub mod LevelLaws
pub mod WordLaws
