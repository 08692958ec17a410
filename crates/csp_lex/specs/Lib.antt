pub mod Places
pub mod Cursors
pub mod Classes
pub mod Tokens
pub mod Marks
pub mod Refusals
pub mod Pieces
