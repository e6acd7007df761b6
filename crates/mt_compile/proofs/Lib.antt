pub mod ConstantExamples
pub mod Encoded
pub mod LexCauses
pub mod Causes
