pub mod Lifting
pub mod LiftingLaws
pub mod LiftingCauses
pub mod LiftingRight
pub mod LiftingRightProof
