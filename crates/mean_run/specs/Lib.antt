pub mod Processes
pub mod Entering
pub mod Calling
pub mod Laws
