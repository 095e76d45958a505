pub mod Exchanging
pub mod Writing
pub mod Zeros
