pub mod Words
pub mod Operators
pub mod Tree
pub mod Opened
