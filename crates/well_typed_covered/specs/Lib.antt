pub mod Plain
pub mod Constants
pub mod Always
pub mod Everywhere
pub mod CoveredBodies
pub mod Laws
