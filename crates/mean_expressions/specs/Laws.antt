-- How the code goes on after its parts.
pub mod Standing
