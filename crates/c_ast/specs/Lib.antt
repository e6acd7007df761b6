pub mod Words
pub mod Operators
pub mod Seen
pub mod Tree
pub mod Laws
