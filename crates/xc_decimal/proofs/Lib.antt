mod Examples
pub mod Behind
pub mod Computed
pub mod ItsNumber
pub mod Narrow
pub mod Numerals
pub mod OneShortest
pub mod Parts
pub mod Points
pub mod ReadAsSpelled
pub mod Spelled
pub mod Trimmed
pub mod Whole
