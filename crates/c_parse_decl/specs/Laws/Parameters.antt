pub mod ParameterLaws
pub mod ListLaws
pub mod ParametersLaws
pub mod Growth
pub mod Code
