-- what one reads to believe an answer: Sources says what is made of each source and why sources mean nothing, Mean what `mean` answers
pub mod Sources
pub mod Mean
-- the same as the program holds it
pub mod Told
-- laws for later proofs
pub mod Laws
