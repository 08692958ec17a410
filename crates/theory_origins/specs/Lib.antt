pub mod Origin
pub mod Action
pub mod Worked
pub mod Telling
pub mod Weight
pub mod Ways
pub mod Doers
pub mod Parts
