pub mod Bodied
pub mod Uses
pub mod Links
pub mod WellTypedPrograms
pub mod Standing
pub mod Laws
