pub mod CeilingSteps
