pub mod Lists
pub mod Effects
pub mod Live
pub mod Stretches
pub mod Laws
