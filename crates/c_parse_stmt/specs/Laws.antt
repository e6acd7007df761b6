-- Laws for later proofs.
pub mod Room
pub mod Growth
pub mod ItemWords
pub mod ClauseLaws
pub mod HeadLaws
pub mod LastLaws
pub mod BranchLaws
pub mod LoopLaws
pub mod BlockLaws
pub mod StatementLaws
pub mod WordCode
pub mod ClauseCode
pub mod Code
