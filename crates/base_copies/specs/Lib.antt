pub mod Parts
pub mod CopyLaws
pub mod LevelCopies
