pub mod ToldRuns
pub mod FirstSides
pub mod OnOks
pub mod Rounds
