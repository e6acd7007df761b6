pub mod SaidLaws
pub mod PartLaws
pub mod LocalLaws
