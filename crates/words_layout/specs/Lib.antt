pub mod Layout
pub mod FieldLaws
pub mod Rows
pub mod SameWords
pub mod Bare
pub mod TableLaid
