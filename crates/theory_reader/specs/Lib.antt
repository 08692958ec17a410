pub mod Forms
pub mod Programs
pub mod Reader
pub mod Refused
pub mod Counted
pub mod Scripts
