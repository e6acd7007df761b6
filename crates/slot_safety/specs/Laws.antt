pub mod MarkedLaws
pub mod OccurrenceLaws
pub mod NumberLaws
