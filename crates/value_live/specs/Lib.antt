pub mod View
pub mod ChangedLaws
pub mod CallLaws
