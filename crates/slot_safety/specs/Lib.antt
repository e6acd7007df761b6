pub mod Constants
pub mod Paths
pub mod Occurrences
pub mod Statements
pub mod Kinds
pub mod Laws
