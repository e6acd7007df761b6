pub mod Constant
pub mod Source
pub mod Refused
pub mod Compiled
pub mod Typed
pub mod Planned
pub mod Causes
pub mod Laws
