mod Walk
mod Machine
mod Digits
mod PartLaws
mod Values
mod Commands
mod Cuts
pub mod Theorems
