pub mod Laws
pub mod Ranges
pub mod Steps
pub mod Verdicts
pub mod Widths
