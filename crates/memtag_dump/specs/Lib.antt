-- Lines says which text a file has, Refusal why it has none.
pub mod Lines
pub mod Refusal
pub mod Laws
