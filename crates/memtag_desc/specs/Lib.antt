-- Numbers and Descriptors say which bytes describe which intervals, Faults what is wrong with all other bytes.
pub mod Numbers
pub mod Descriptors
pub mod Faults
pub mod Refusal
pub mod Laws
