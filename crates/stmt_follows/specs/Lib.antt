pub mod Parts
pub mod Expressions
pub mod Ready
pub mod Declarations
pub mod Laws
