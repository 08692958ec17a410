pub mod Spelled
pub mod Sameness
pub mod Hashes
pub mod Packing
