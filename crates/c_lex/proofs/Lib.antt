pub mod DigitLaws
pub mod NumeralLaws
pub mod ConstantExamples
pub mod DirectiveLaws
pub mod LexLaws
pub mod LoopLaws
pub mod InText
