pub mod Allowed
pub mod Rows
pub mod Taking
pub mod Voting
pub mod Opened
