pub mod StarredLaws
pub mod BracketLaws
pub mod DeclaratorLaws
pub mod Growth
pub mod Code
