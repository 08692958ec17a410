pub mod Spelling
pub mod Spellable
pub mod Reading
pub mod Packable
pub mod Ranges
