pub mod Act
pub mod Desk
pub mod Telling
pub mod Wording
