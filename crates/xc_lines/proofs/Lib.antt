pub mod Appended
pub mod Examples
pub mod FindingLines
pub mod JointParts
pub mod Naming
pub mod SettledText
pub mod Words
