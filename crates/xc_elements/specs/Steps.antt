-- What the steps of the code keep and hand to one another. No public clause speaks of it.
pub mod Bindings
pub mod Doubles
pub mod Kept
pub mod Reading
pub mod Refusals
pub mod Views
