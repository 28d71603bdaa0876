pub mod Exchange
pub mod ExchangeLaws
pub mod WordsClaim
