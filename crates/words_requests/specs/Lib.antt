pub mod NumbersSaid
pub mod LiftingSaid
pub mod RingSaid
pub mod RingSaidLaws
pub mod DoubtSaid
pub mod DoubtSaidLaws
