pub mod Asking
pub mod Giving
pub mod Graphs
pub mod Running
pub mod Stops
