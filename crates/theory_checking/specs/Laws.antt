-- What the laws speak of, and small trees for them.
pub mod Trees
pub mod Refusals
pub mod DeclaredNames
pub mod SiteWalks
pub mod UsedNames
pub mod Searches
pub mod Asking
pub mod FittingKinds
pub mod Sets
pub mod FirstSets
