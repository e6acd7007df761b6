-- Laws for later proofs.
pub mod VoidLaws
