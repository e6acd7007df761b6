pub mod Turning
pub mod Starting
