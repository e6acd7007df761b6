pub mod Functions
pub mod Gains
pub mod Refused
pub mod Turns
