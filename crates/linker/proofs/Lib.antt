-- Lemmas that proofs of several functions share.
pub mod Knowing
pub mod Binding
pub mod Firsts
pub mod Listed
pub mod Each
pub mod Relocated
pub mod Placed
pub mod Recorded
pub mod TaggedSymbols
pub mod Covered
pub mod Spanned
pub mod Staged
