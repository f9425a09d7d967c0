pub mod Kinds
pub mod Lines
pub mod Marks
pub mod Plans
pub mod Sheet
