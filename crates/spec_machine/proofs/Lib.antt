pub mod Cases
pub mod PlannedLoad
