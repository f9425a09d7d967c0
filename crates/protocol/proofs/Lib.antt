pub mod Bags
pub mod Counting
pub mod Parts
pub mod Phases
