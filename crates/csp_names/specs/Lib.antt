pub mod Refusals
pub mod Meanings
pub mod Names
pub mod Rows
pub mod Scopes
pub mod FirstPass
pub mod Walks
