pub mod Appended
pub mod Constructs
pub mod Turns
pub mod Weight
