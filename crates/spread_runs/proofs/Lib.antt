pub mod Walking
pub mod Rounds
pub mod Fired
pub mod Leading
