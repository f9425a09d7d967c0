pub mod Lowest
pub mod Sides
pub mod Going
