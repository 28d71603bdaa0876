pub mod Climb
pub mod Comparison
pub mod Wrapped
pub mod Chosen
