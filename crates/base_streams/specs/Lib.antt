pub mod Stream
pub mod StreamLaws
pub mod Text
pub mod TextLaws
pub mod Series
pub mod Listed
