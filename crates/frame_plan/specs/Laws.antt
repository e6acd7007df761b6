-- Laws of the text, for later proofs.
pub mod OneText
