pub mod CodeLaws
pub mod WaitingLaws
pub mod ArgumentLaws
