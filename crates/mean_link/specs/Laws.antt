-- Laws, for later proofs.
pub mod UseLaws
pub mod TreeUses
pub mod NameLaws
pub mod OneAnswer
