pub mod FirstFiles
pub mod Written
pub mod Whole
