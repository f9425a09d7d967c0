pub mod Bounds
pub mod Marked
pub mod Pairs
pub mod Table
