-- Laws of links, for later proofs, and examples.
pub mod FieldExamples
pub mod Examples
pub mod OneFault
pub mod Sizes
pub mod OneOrder
pub mod OneImage
pub mod Valid
pub mod Growth
pub mod Places
pub mod LaidLaws
pub mod Starting
pub mod FilledLaws
pub mod Spelled
pub mod FewestLaws
pub mod PlanLaws
pub mod MadeLaws
