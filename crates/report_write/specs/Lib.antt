pub mod AskLaws
pub mod TwoLinks
pub mod ReportWritten
pub mod ReportCalled
