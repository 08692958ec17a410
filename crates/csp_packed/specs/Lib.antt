pub mod Within
pub mod Packed
pub mod Hashing
pub mod PackedForm
pub mod PackedExpansion
pub mod Targets
