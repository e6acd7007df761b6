-- What more work changes of a program: nothing where it ends, and else it goes on from where the work was used up.
pub mod Values
pub mod Expressions
pub mod Locals
pub mod Statements
pub mod Meaning
