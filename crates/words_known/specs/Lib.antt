pub mod Known
pub mod KnownLaws
pub mod Left
