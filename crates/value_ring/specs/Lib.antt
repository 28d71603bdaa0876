pub mod Shown
pub mod ShownRight
pub mod ShownRightProof
pub mod ShownLabels
pub mod ShownLabelsProof
