pub mod Settings
pub mod Doubtful
pub mod DoubtRight
pub mod DoubtRightProof
