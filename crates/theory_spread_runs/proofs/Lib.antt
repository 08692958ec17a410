pub mod Spreading
pub mod Begun
pub mod Showing
