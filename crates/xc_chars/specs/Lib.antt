pub mod Characters
pub mod Laws
pub mod Parts
pub mod PlainNames
pub mod Steps
pub mod Trimmed
