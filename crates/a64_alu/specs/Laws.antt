pub mod Adding
pub mod Bitfield
