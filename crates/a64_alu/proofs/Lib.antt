mod Examples
pub mod Narrow
