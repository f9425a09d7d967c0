pub mod Lint
pub mod Split
