pub mod Certificates
pub mod Codes
pub mod Faults
pub mod Laws
pub mod Steps
