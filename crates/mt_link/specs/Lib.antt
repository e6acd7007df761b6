-- what one reads to believe an answer
pub mod Link
-- laws for later proofs
pub mod Laws
