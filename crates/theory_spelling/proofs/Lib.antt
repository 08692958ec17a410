pub mod Numbers
pub mod Parts
pub mod Taking
pub mod Again
pub mod Laws
pub mod ShortLists
pub mod KindedSpelling
pub mod OfSpellable
