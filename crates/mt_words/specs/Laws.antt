-- Laws of jobs, for later proofs.
pub mod Formed
pub mod OneJob
