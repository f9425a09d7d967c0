pub mod Turns
pub mod Runs
pub mod Promises
pub mod Withstood
pub mod Answers
