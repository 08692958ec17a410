pub mod Asking
pub mod Lines
pub mod Running
pub mod Stops
pub mod Walking
