-- Parts is where memory is, Tags and Relocated what it has there, Loaded the state at the start. Starts says which images
-- start, Machine what the run from there is.
pub mod Parts
pub mod Tags
pub mod Relocated
pub mod Loaded
pub mod Starts
pub mod Machine
pub mod Memory
pub mod Refusal
pub mod Laws
