pub mod Words
pub mod Labels
pub mod Functions
pub mod Units
pub mod Appended
