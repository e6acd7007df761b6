-- A larger bound leaves each run that is not stuck as it is. So a program with its input and work has one meaning.
pub mod Expressions
pub mod Initialisers
pub mod Statements
pub mod Meaning
