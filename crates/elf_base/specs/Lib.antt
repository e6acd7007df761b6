-- Field and Records say what the bytes of each record are, Layout what a file of pieces is.
-- Place and Laying say what the readers and writers of parts of a file do, Conditions and Zeros how a file is judged.
pub mod Field
pub mod Records
pub mod Layout
pub mod Place
pub mod Standing
pub mod Laying
pub mod Conditions
pub mod Zeros
pub mod Index
pub mod Laws
