pub mod Filling
pub mod Counts
pub mod Draws
pub mod Sifting
pub mod Sets
pub mod Theorem
pub mod Reading
