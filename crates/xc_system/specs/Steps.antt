pub mod Indexed
pub mod Measured
pub mod Owned
pub mod Roots
