pub mod LiveProof
