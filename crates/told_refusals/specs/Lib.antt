pub mod FileNames
pub mod Refusals
