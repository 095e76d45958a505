pub mod Bindings
pub mod Equation
pub mod Judged
pub mod Laws
pub mod Placed
pub mod Solved
pub mod Steps
pub mod Systems
