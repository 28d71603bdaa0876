pub mod HandsetsProof
