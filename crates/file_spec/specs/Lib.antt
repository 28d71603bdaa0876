pub mod File
pub mod LineLaws
pub mod LinesRight
pub mod FileCauses
pub mod RoundTrip
pub mod Replies
pub mod Example
