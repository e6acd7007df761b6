-- Answers says what comes of an access to any memory with tags; Regions is what flat memory is made of.
pub mod Answers
pub mod Regions
pub mod Laws
