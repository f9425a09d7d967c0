pub mod Marks
pub mod Padded
pub mod Format
