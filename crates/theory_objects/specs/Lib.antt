pub mod Fields
pub mod Accounts
pub mod Answers
pub mod Refusals
