-- Names, Sections and Got say what symbols stand for, where sections lie and which symbols have a word in the table; Addresses and Fields
-- which addresses these lead to and what relocated instructions hold. Code, Data, Relocations and Tagged are the parts of the image of
-- objects, LinkFault why objects have none, and Linked is the whole.
pub mod Names
pub mod Sections
pub mod Got
pub mod Addresses
pub mod Fields
pub mod Code
pub mod Data
pub mod Relocations
pub mod Tagged
pub mod LinkFault
pub mod Linked
pub mod Refusal
pub mod Known
pub mod Ready
pub mod Totals
pub mod Spans
pub mod Planned
pub mod Laws
