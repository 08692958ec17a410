pub mod Action
pub mod Copies
pub mod Fields
pub mod Handle
pub mod Value
