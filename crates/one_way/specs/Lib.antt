pub mod Numbering
pub mod NumberingLaws
pub mod Right
