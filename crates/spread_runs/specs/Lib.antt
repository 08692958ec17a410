pub mod Toward
pub mod Walk
pub mod Rounds
pub mod Spread
