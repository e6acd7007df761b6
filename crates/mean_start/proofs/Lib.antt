pub mod Steps
pub mod Starting
pub mod Naming
pub mod Agreeing
pub mod Blocks
pub mod Filing
pub mod Meaning
pub mod Entering
mod StartExamples
