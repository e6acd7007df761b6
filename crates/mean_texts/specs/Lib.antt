-- Texts says what some texts mean together, Refusal why others mean nothing, Answers what `mean_texts` answers by that.
pub mod Texts
pub mod Refusal
pub mod Answers
pub mod Laws
