-- Answers of the code, and what the definition's runs are in its words.
pub mod Giving
pub mod Comparing
pub mod Reading
pub mod Storing
pub mod Combining
