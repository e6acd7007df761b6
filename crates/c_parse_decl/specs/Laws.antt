-- Laws for later proofs.
pub mod Declarators
pub mod Parameters
pub mod Initializers
pub mod Objects
pub mod Members
