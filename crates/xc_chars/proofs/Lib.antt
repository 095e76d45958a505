pub mod Paths
pub mod Splits
pub mod WhiteSpace
