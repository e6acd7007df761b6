pub mod Files
pub mod Numbers
pub mod Known
pub mod Opened
pub mod Laws
