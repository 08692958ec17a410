pub mod EventSets
pub mod Names
pub mod Shapes
pub mod Writing
