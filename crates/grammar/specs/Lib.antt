pub mod Grammar
pub mod Exact
pub mod Reads
