pub mod Forms
pub mod FieldOrder
pub mod OperatorForms
pub mod TermOrder
pub mod TermPutting
pub mod Equality
pub mod Ties
pub mod FieldMeasures
pub mod TermMeasures
pub mod Fitting
pub mod Without
pub mod Growing
pub mod Ended
mod Sides
pub mod WithinLimits
