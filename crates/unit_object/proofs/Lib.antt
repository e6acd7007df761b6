pub mod NameLaws
mod Examples
pub mod FoundLaws
pub mod OrderLaws
pub mod NumberLaws
pub mod PushedLaws
pub mod ObjectLaws
