-- Pages says what memory in pages holds; Parts what the parts of pages are in which a look-up ends.
pub mod Pages
pub mod Parts
pub mod Laws
