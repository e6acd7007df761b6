pub mod ObjectLaws
pub mod EndLaws
pub mod RestLaws
pub mod RestParts
pub mod LocalLaws
pub mod Growth
pub mod Code
