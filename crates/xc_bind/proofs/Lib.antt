mod Contributors
mod Examples
mod InOrder
mod Judging
mod Members
mod OneAnswer
mod OneSystem
pub mod Owning
mod PointPlaces
mod RolesInOrder
pub mod Placing
mod TotalPoints
pub mod Solving
