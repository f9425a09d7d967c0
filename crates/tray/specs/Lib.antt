pub mod Layers
pub mod Tables
