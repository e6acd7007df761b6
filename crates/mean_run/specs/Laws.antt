-- Laws on locals, scopes, calls and whole processes.
pub mod Moving
pub mod Windows
pub mod Entering
pub mod Scopes
pub mod Arguments
pub mod Calls
pub mod Popping
