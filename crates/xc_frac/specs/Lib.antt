pub mod Cleared
pub mod Passes
pub mod Rooms
