pub mod Running
pub mod Sides
pub mod ToldRuns
pub mod Accounts
