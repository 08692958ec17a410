pub mod Field
pub mod Term
pub mod Script
pub mod Own
