pub mod ExpressionExamples
pub mod OperandLaws
pub mod CallLaws
pub mod ScopeLaws
pub mod ArmLaws
pub mod PlaceLaws
