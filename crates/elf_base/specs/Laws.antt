-- Laws of the records, of files that are laid out in pieces, and of conditions, for later proofs.
pub mod Tests
pub mod Lengths
pub mod LaidOut
pub mod OneLayout
pub mod Reads
pub mod Standing
pub mod Same
pub mod RecordsStand
pub mod Zeros
pub mod Conditions
