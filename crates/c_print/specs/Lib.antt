pub mod Words
pub mod Tokens
pub mod Expressions
pub mod Declarations
pub mod Statements
pub mod Program
pub mod Spans
pub mod Laws
