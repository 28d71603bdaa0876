pub mod Words
pub mod WordLaws
pub mod WordSteps
pub mod KindLaws
pub mod StoreLaws
