-- Wrapping, TwosComplement, Extension and Shifts are numbers of k bits. Granules, Pointers and Tags are those of the Memory
-- Tagging Extension. Memory is what an access of a machine with that extension meets.
pub mod Wrapping
pub mod TwosComplement
pub mod Extension
pub mod Shifts
pub mod Granules
pub mod Pointers
pub mod Tags
pub mod Memory
pub mod Laws
