-- what one reads to believe an answer
pub mod Seen
pub mod Status
pub mod Read
pub mod Counted
pub mod Each
pub mod Put
-- the same as the program holds it
pub mod Answer
pub mod Refusals
pub mod Unrun
-- laws for later proofs
pub mod Laws
