-- How kinds that fit are found: kinds with open ends, states of a search for them, and the equations that terms ask for.
pub mod Chain
pub mod State
pub mod Equations
pub mod Expressions
pub mod Processes
pub mod Items
pub mod Sets
