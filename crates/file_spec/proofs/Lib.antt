pub mod LineSteps
pub mod ReadLaws
pub mod RewrittenLaws
pub mod WrittenLaws
