pub mod Parsed
pub mod Refusal
pub mod Reading
pub mod Laws
