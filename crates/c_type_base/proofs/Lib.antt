pub mod SizeExamples
pub mod ArithmeticExamples
pub mod WrapLaws
