-- what one reads to believe `drive`
pub mod Agrees
pub mod Built
pub mod Sources
pub mod Ran
pub mod Go
pub mod Build
pub mod RunFile
pub mod Dump
pub mod Plan
pub mod Usage
pub mod Answers
-- what the parts below it say
pub mod Unbuilt
pub mod Undumped
pub mod NoWords
-- laws for later proofs
pub mod Laws
