-- Codes of the trees, by which a proof tells them apart.
pub mod Coding
pub mod Values
pub mod Processes
