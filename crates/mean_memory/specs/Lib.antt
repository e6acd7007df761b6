pub mod Filled
pub mod Ends
pub mod Owners
pub mod Shown
pub mod Copied
pub mod Standing
pub mod Laws
