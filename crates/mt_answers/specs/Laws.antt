pub mod EachLaws
pub mod SameBytes
pub mod Written
pub mod Counts
pub mod StatusLaws
pub mod Answering
