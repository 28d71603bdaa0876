pub mod Turns
pub mod Office
