pub mod Doubles
pub mod Firsts
pub mod Lending
pub mod Members
pub mod Places
pub mod Steps
pub mod TextLines
