pub mod Facts
pub mod Gathered
pub mod Kept
pub mod Laws
pub mod Places
pub mod Steps
pub mod Values
