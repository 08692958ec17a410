pub mod Channels
pub mod Events
pub mod Testing
pub mod Imaging
pub mod Sources
