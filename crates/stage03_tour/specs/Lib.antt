pub mod Firsts
pub mod Siblings
pub mod Neighbors
pub mod Predecessors
pub mod Rounds
