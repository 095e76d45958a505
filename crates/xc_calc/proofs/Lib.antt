mod AttributeSets
pub mod Drawing
pub mod Filtered
pub mod GroupAnswers
pub mod GroupSteps
pub mod Grouping
pub mod Integers
pub mod Labelling
pub mod OneAnswer
pub mod Roles
