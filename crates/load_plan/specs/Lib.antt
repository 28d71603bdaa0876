pub mod Marks
pub mod Unfit
pub mod Tops
