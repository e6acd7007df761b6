pub mod Runs
pub mod Values
pub mod Expressions
pub mod Locals
pub mod Statements
pub mod Meaning
