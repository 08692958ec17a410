pub mod Lent
pub mod Limits
pub mod Stepped
pub mod Heads
