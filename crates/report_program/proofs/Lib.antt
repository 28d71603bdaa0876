pub mod CaseB
pub mod LaidLaws
pub mod ProgramProof
