pub mod Empty
mod OneStep
pub mod SlotStates
mod Slot
mod Words
mod Leaving
