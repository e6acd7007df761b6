pub mod Turning
pub mod Declared
pub mod Texts
