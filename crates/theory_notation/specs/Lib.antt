pub mod Names
pub mod Marks
pub mod Told
pub mod Values
pub mod Expressions
pub mod EventSets
pub mod Processes
pub mod Samples
