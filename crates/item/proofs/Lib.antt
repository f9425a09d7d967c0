pub mod Bits
pub mod Outside
