-- Lines says which lines a program has, Refusal which programs have them and why others have none.
pub mod Lines
pub mod Refusal
pub mod Laws
