pub mod Bound
pub mod Found
pub mod NameSets
pub mod Numbered
pub mod TextMaps
