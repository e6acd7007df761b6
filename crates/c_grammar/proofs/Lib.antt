mod Examples
mod MainExample
mod DepthExample
mod StructExample
mod StatementExamples
mod Refused
