pub mod Numbers
pub mod Cases
pub mod Loop
pub mod Spelling
