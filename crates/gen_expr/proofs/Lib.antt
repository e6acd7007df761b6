pub mod Operands
pub mod Steps
pub mod Turns
pub mod Weight
