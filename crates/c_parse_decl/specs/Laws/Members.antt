pub mod ListLaws
pub mod MemberLaws
pub mod Growth
pub mod Code
