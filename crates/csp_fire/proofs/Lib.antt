pub mod Within
pub mod Acting
pub mod Exactness
pub mod Scanning
pub mod Adding
pub mod Offered
pub mod Keeping
mod Leading
