pub mod Words
pub mod Values
pub mod Operators
pub mod Calls
pub mod Expressions
pub mod Statements
