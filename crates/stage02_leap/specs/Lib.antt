pub mod Goal
pub mod Nearer
pub mod GoalRounds
