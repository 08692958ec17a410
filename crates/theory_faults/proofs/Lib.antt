pub mod Blaming
pub mod Expressions
pub mod Events
pub mod Processes
