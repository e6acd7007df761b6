pub mod Sizes
pub mod Layout
pub mod Types
pub mod Conversions
pub mod Arithmetic
pub mod Known
pub mod Constants
pub mod Laws
