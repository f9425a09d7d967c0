pub mod Kept
pub mod Layered
