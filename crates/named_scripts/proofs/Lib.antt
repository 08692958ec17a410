pub mod Placing
pub mod Beginnings
