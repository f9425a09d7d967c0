pub mod Rehearsed
pub mod Session
