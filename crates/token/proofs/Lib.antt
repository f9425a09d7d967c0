pub mod Pieces
pub mod First
pub mod Scans
