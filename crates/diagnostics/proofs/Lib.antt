pub mod NearestSoFar
pub mod Telling
