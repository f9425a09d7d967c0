pub mod Performed
pub mod Ran
