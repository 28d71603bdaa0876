pub mod Play
pub mod Claim
pub mod Inside
