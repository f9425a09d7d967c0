pub mod Acts
pub mod Lines
pub mod Telling
