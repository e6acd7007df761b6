pub mod OneLinked
pub mod LinkLaws
