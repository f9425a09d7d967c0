pub mod Rounds
pub mod Validity
pub mod Decisions
pub mod Maps
