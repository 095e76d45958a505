pub mod Answers
pub mod Decimals
pub mod Digits
pub mod Laws
pub mod Numbers
pub mod Reading
pub mod Shortest
pub mod Spelling
