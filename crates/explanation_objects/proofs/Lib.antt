pub mod Closing
pub mod Objects
pub mod Parts
pub mod Putting
pub mod StepsAt
