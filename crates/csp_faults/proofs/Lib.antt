pub mod Found
pub mod FieldsFound
pub mod Forms
pub mod GivenFields
pub mod Instances
pub mod Kept
pub mod TermParts
