pub mod Binding
pub mod Declaring
pub mod Texts
