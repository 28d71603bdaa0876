pub mod Flags
pub mod Sharing
pub mod BitFolds
pub mod LabelBits
