pub mod Divisors
pub mod Fraction
pub mod Laws
pub mod Order
pub mod Parts
pub mod Ratio
pub mod Width
