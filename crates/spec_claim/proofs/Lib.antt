pub mod ClaimProof
pub mod InsideProof
pub mod PlayLaws
