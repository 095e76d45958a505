pub mod Codes
pub mod Expansion
pub mod Laws
pub mod NameSets
pub mod Names
pub mod Steps
pub mod Prefixes
