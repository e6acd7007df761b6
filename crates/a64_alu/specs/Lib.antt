-- Operations on numbers of k bits, 64 or 32 of them, that are below 2 ^ k. AND, ORR and EOR are `bit_and`, `bit_or` and
-- `bit_xor` of the Prelude; addition and subtraction without flags are `wrapping_add` and `wrapping_sub` of `mt_base`.
pub mod Width
pub mod Adding
pub mod Condition
pub mod Bitfield
pub mod Dividing
pub mod Multiplying
pub mod Shifting
pub mod Laws
