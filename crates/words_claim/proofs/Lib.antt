pub mod WordsClaimProof
