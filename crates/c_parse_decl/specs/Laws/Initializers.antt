pub mod ListLaws
pub mod InitialLaws
pub mod Growth
pub mod Code
