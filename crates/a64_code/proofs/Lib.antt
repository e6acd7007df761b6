mod Rooms
mod Encoding
mod Listing
mod Examples
mod EffectExamples
mod AccessExamples
