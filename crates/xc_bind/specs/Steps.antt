-- Steps of the code, which no public clause cites.
pub mod Grouped
pub mod Numbered
pub mod Owners
pub mod Places
pub mod Totals
