-- What each kind of part asks.
pub mod Values
pub mod Operators
pub mod Expressions
pub mod Arguments
pub mod Events
pub mod Fields
pub mod Heads
pub mod Renamings
pub mod Processes
pub mod Items
pub mod Sets
