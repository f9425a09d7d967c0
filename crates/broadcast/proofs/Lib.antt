pub mod Admitted
pub mod Rows
pub mod Settled
