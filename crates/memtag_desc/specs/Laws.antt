-- Laws of the descriptors, for later proofs. Reading is what the code computes, Adding what it appends.
pub mod Reading
pub mod Adding
pub mod ReadNumber
pub mod ReadDescriptor
pub mod OneAnswer
pub mod OneSpelling
pub mod Examples
