pub mod Worlds
pub mod Records
pub mod Runs
pub mod Broadcasts
