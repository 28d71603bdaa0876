pub mod FrameOrder
pub mod Walk
pub mod Marks
