pub mod Unfolded
pub mod Assertions
pub mod Laws
pub mod Worked
pub mod Told
