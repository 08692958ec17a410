-- Kinds of values and names, and well-kinded scripts.
pub mod Kind
pub mod Values
pub mod Expressions
pub mod Events
pub mod Processes
pub mod Putting
pub mod Scripts
