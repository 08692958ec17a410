pub mod Moves
pub mod Trails
pub mod Commands
pub mod Answers
pub mod Views
pub mod Walks
pub mod Laws
pub mod Samples
