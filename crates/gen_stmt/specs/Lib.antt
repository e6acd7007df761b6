pub mod Scopes
pub mod Loops
pub mod Statements
pub mod Laws
