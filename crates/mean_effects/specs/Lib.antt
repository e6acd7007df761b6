pub mod Shown
pub mod Objects
pub mod Answered
pub mod Effects
pub mod Laws
