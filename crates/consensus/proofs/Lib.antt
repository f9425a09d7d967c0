pub mod Sides
pub mod Tallies
pub mod Steps
pub mod Theorem
pub mod Advancing
pub mod Example
pub mod Joins
pub mod Accounts
