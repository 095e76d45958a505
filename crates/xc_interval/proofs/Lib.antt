pub mod Admitted
pub mod Denominators
pub mod Emptiness
mod Examples
pub mod Groups
pub mod Mapped
pub mod Meeting
pub mod Multiples
pub mod Narrowing
pub mod Numbers
pub mod OneInterval
pub mod Passing
pub mod Reals
pub mod Sides
pub mod Sums
pub mod Tighter
