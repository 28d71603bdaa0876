pub mod Passes
pub mod Tops
pub mod TopLaws
pub mod Agreed
