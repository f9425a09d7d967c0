pub mod Checks
pub mod Opening
pub mod Sent
