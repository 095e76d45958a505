pub mod Found
pub mod Past
pub mod Put
pub mod Sent
pub mod Steady
pub mod Taken
