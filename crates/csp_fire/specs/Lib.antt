pub mod Form
pub mod Offering
pub mod Expansion
pub mod Targets
