pub mod Laws
pub mod Records
pub mod Tags
pub mod Bodies
pub mod Made
