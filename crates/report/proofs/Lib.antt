pub mod Joining
pub mod Sending
pub mod ValueTexts
