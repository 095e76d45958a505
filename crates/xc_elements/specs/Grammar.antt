-- The grammar of items in the words of XML 1.0, a file for each row, with the law that the cut into items keeps to it.
pub mod Words
pub mod Comments
pub mod Sections
pub mod Instructions
pub mod EndTags
pub mod Letters
pub mod References
pub mod Values
pub mod Attributes
pub mod Tags
pub mod Declarations
