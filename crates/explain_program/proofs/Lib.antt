pub mod Asking
pub mod Giving
pub mod Placing
pub mod Refusing
pub mod Sizes
pub mod Stopping
pub mod Stops
pub mod Tellings
