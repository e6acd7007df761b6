pub mod Steps
pub mod OutOfSteps
