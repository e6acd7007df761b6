-- Tagged pointers: 64-bit numbers whose bits 59 to 56 are a tag and whose bits 55 to 0 are an address.
use Rattle.std.specs.Prelude.{ℕ, ◌+◌, ◌*◌, ◌/◌, ◌%◌, ◌^◌}

-- bits 59 to 56: `AArch64.AllocationTagFromAddress` of the Arm ARM
abbrev pub tag_of : ℕ → ℕ
tag_of pointer = pointer / 2 ^ 56 % 16

-- the pointer with these bits replaced: `AArch64.AddressWithAllocationTag`
abbrev pub with_tag : ℕ → ℕ → ℕ
with_tag pointer tag = pointer / 2 ^ 60 * 2 ^ 60 + tag * 2 ^ 56 + pointer % 2 ^ 56

-- bits 55 to 0
abbrev pub address_of : ℕ → ℕ
address_of pointer = pointer % 2 ^ 56
