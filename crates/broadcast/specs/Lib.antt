pub mod Hearing
pub mod Receiving
pub mod Stages
