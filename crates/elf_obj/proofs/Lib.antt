pub mod Steps
pub mod Faults
pub mod Claims
pub mod Names
pub mod Intervals
pub mod Sharing
pub mod Sound
