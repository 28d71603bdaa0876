pub mod ParentChoice
pub mod BestParent
pub mod EqualLevels
