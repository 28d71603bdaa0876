pub mod Lent
pub mod LentLaws
pub mod SeatsLeft
pub mod SameSeats
pub mod ServeLaws
pub mod Cleared
pub mod SeatExchange
