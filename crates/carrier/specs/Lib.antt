pub mod Posting
pub mod Waiting
