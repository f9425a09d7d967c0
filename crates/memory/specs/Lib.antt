pub mod Contents
pub mod Places
