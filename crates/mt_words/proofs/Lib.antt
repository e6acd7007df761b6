pub mod Digits
pub mod Parsing
pub mod Table
pub mod Clauses
mod Examples
