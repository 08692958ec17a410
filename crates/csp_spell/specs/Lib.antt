pub mod Gives
pub mod Tags
pub mod WithinLimits
