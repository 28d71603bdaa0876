pub mod Lines
pub mod LineLaws
pub mod ReadBack
pub mod Handsets
pub mod Example
