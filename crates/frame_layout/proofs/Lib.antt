pub mod NeedTurns
pub mod ScopeTurns
pub mod PartTurns
pub mod SlotTurns
pub mod WholeFrames
mod FrameExamples
mod NeedExamples
