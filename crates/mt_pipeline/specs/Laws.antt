pub mod BuiltLaws
pub mod OneLink
pub mod OneBuild
pub mod ConstantRun
pub mod OneRun
