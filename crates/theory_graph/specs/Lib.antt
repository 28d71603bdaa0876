pub mod Rings
pub mod Walks
pub mod Routes
pub mod Propagation
pub mod Forest
pub mod Ancestors
pub mod TreePath
