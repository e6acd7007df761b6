-- Order says which objects a file defines and in which order, Data what bytes its texts and objects begin with, Symbols what its symbols
-- are, Parts what its object is made of.
pub mod Order
pub mod Data
pub mod Symbols
pub mod Parts
pub mod Numbers
pub mod Numbered
pub mod Scopes
pub mod Counted
pub mod Named
