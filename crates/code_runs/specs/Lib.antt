pub mod Outcome
pub mod Within
pub mod Bounded
pub mod Items
pub mod Laws
