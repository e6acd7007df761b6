-- What stays shown where slots and blocks change together.
pub mod Places
pub mod Slots
pub mod Owning
pub mod Holding
pub mod Ending
pub mod Copying
