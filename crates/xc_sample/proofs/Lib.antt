pub mod Examples
pub mod Lengths
pub mod Lists
pub mod NodeValues
