-- Laws, for later proofs: Causes says what the parts of `mean_texts` say of each other, Bodies and Mains what the files of texts have,
-- Used what bodies refer to, Named what linked names stand for (with Tests), Linked that texts together have a meaning, OneMeaning that
-- they have one, or are refused.
pub mod Causes
pub mod Bodies
pub mod Mains
pub mod Tests
pub mod Used
pub mod Named
pub mod Linked
pub mod OneMeaning
