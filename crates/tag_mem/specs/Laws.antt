pub mod Regions
pub mod Bytes
