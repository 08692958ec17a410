pub mod Culprit
pub mod Expressions
pub mod Events
pub mod Processes
pub mod Truth
