pub mod FileBeginnings
pub mod Answering
pub mod Reporting
pub mod Giving
pub mod Refusing
pub mod Serving
pub mod Beginnings
