-- From what a run keeps to what it gives.
pub mod Turns
pub mod Outside
pub mod Goes
pub mod Told
