pub mod SeatLaws
pub mod EmptyLaws
