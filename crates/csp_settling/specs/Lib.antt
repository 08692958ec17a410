pub mod Arguments
pub mod Settling
