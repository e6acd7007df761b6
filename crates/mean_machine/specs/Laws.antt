-- From where it begins for a program the machine leads to what the program means.
pub mod Computes
pub mod Evaluation
pub mod Declarations
pub mod Execution
pub mod Programs
pub mod Resting
pub mod Putting
pub mod PuttingOn
