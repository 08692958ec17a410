pub mod Elapsing
pub mod Memory
