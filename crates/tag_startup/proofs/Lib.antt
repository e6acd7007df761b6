mod Loads
mod Started
mod Tagging
mod Storing
mod Judged
mod Fitting
