pub mod Turns
pub mod Clauses
mod PlanExamples
