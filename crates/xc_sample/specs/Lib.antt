pub mod Laws
pub mod Samples
pub mod Steps
pub mod Texts
