pub mod ExactSteps
pub mod ChangedRows
pub mod FirstBytes
