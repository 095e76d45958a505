pub mod Accepting
pub mod Adding
pub mod Amounts
pub mod Known
pub mod Meeting
pub mod Once
pub mod Refusing
pub mod Results
