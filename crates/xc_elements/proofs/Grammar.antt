-- The cut into items keeps to each row of the grammar.
pub mod Marks
pub mod Shapes
pub mod Kinds
pub mod Comments
pub mod Sections
pub mod Names
pub mod EndTags
pub mod Letters
pub mod Spelling
pub mod Instructions
pub mod References
pub mod Sequences
pub mod Values
pub mod Attributes
pub mod Tags
pub mod Declarations
