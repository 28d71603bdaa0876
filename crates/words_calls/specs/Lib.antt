pub mod Face
pub mod FileFace
pub mod FileFaceLaws
