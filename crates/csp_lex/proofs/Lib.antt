pub mod Steps
pub mod Spellings
pub mod Marking
pub mod Commenting
pub mod Wording
pub mod Dividing
