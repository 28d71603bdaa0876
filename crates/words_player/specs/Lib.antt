pub mod Played
pub mod OneLaws
pub mod PlayLaws
