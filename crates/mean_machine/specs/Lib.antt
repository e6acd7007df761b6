pub mod Frames
pub mod Going
pub mod Evaluation
pub mod Execution
pub mod Steps
pub mod Laws
