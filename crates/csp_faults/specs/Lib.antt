pub mod Asked
pub mod Culprit
pub mod Fields
pub mod Known
pub mod Parts
