pub mod Tokens
pub mod Scan
