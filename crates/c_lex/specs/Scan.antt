-- Words of the scanner, for the contracts of its private functions alone: the laws say that they are what the definitions say.
pub mod Digits
pub mod Numeral
pub mod Escape
pub mod Quoted
pub mod Words
pub mod Reading
