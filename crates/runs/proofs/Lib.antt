pub mod Leading
pub mod Turning
