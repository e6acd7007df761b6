pub mod Waiting
pub mod First
pub mod Alike
pub mod Blocks
