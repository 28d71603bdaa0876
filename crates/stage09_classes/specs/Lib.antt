pub mod Absorbed
pub mod HeadLaws
pub mod LinkLaws
pub mod Propagation
pub mod RoundLaws
pub mod Rounds
pub mod Leap
