pub mod Computes
pub mod Operations
pub mod Laws
