pub mod Lg
pub mod LgLaws
