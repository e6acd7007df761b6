pub mod Coded
pub mod Nodes
pub mod Expressions
pub mod Laws
