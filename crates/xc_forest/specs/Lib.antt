pub mod Forests
pub mod Laws
pub mod Settled
pub mod Steps
