pub mod Settled
pub mod Bound
pub mod Steady
pub mod MoreWork
pub mod Progress
