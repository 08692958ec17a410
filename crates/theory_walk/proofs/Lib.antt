pub mod Offered
pub mod Along
pub mod Going
pub mod Closing
