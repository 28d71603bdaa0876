pub mod TableReplies
pub mod FreshReplies
pub mod Passes
