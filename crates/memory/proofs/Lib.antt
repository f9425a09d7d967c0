pub mod Counting
pub mod Grid
pub mod Sizes
pub mod Wiping
