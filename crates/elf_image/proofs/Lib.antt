-- Lemmas that proofs of several functions share.
pub mod Judging
pub mod Loops
pub mod Whole
pub mod Walks
pub mod Reading
