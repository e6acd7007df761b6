pub mod Tables
pub mod Turns
mod LinkExamples
mod UseExamples
