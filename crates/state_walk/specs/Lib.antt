pub mod Walks
pub mod Answers
pub mod Commands
pub mod Naming
