pub mod Turns
pub mod Strides
