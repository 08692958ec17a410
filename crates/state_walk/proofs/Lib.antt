pub mod Blanks
pub mod Choosing
pub mod Following
pub mod Listing
pub mod Keeping
pub mod Viewing
