pub mod Tallies
pub mod Votes
pub mod Places
