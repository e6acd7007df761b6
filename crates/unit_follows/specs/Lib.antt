pub mod Placing
pub mod Placed
pub mod Sound
pub mod Units
pub mod Functions
pub mod Laws
