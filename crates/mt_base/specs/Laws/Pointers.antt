-- Laws of tagged pointers: what is read of what was put, and what addition keeps.
use Rattle.std.specs.Prelude.{◌≡◌, ℕ, ◌+◌, ◌-◌, ◌*◌, ◌%◌, ◌^◌, ◌<◌, ◌≤◌}
use Rattle.std.proofs.Common.{arith}
use Rattle.mt_base.specs.Wrapping.{wrapping_add, wrapping_sub}
use Rattle.mt_base.specs.Pointers.{tag_of, with_tag, address_of}

-- ---- of each other

pub tag_of-lt : (p : ℕ) → tag_of p < 16
tag_of-lt p = omega arith

pub address_of-lt : (p : ℕ) → address_of p < 2 ^ 56
address_of-lt p = omega arith

pub tag_of-with_tag : (p t : ℕ) → t < 16 → tag_of (with_tag p t) ≡ t
tag_of-with_tag p t h = omega arith

pub address_of-with_tag : (p t : ℕ) → address_of (with_tag p t) ≡ address_of p
address_of-with_tag p t = omega arith

pub with_tag-with_tag : (p s t : ℕ) → s < 16 → with_tag (with_tag p s) t ≡ with_tag p t
with_tag-with_tag p s t h = omega arith

-- a pointer with its own tag
pub with_tag_own : (p : ℕ) → with_tag p (tag_of p) ≡ p
with_tag_own p = omega arith

-- the tag and the rest make the pointer
pub with_tag_same : (p q : ℕ) → with_tag p 0 ≡ with_tag q 0 → tag_of p ≡ tag_of q → p ≡ q
with_tag_same p q rest tags = omega arith

pub with_tag-lt : (p t : ℕ) → p < 2 ^ 64 → t < 16 → with_tag p t < 2 ^ 64
with_tag-lt p t fits h = omega arith

-- ---- of an address with a tag added

-- the number `address + tag * 2 ^ 56` is the address with that tag
pub with_tag_is : (a t : ℕ) → a < 2 ^ 56 → with_tag a t ≡ a + t * 2 ^ 56
with_tag_is a t h = omega arith

pub address_of_tagged : (a t : ℕ) → a < 2 ^ 56 → address_of (a + t * 2 ^ 56) ≡ a
address_of_tagged a t h = omega arith

pub tag_of_tagged : (a t : ℕ) → a < 2 ^ 56 → t < 16 → tag_of (a + t * 2 ^ 56) ≡ t
tag_of_tagged a t h small = omega arith

-- ---- under addition

-- an address wraps on its own, whatever stands above it
pub address_of-add : (p n : ℕ) → address_of (p + n) ≡ (address_of p + n) % 2 ^ 56
address_of-add p n = omega arith

pub address_of-wrapping_add : (p n : ℕ) → address_of (wrapping_add 64 p n) ≡ (address_of p + n) % 2 ^ 56
address_of-wrapping_add p n = omega arith

pub address_of-wrapping_sub : (p n : ℕ) → n ≤ address_of p → address_of (wrapping_sub 64 p n) ≡ address_of p - n
address_of-wrapping_sub p n within = omega arith

-- while the address does not wrap, the tag stays
pub tag_of-add : (p n : ℕ) → address_of p + n < 2 ^ 56 → tag_of (p + n) ≡ tag_of p
tag_of-add p n within = omega arith

pub tag_of-wrapping_add : (p n : ℕ) → address_of p + n < 2 ^ 56 → tag_of (wrapping_add 64 p n) ≡ tag_of p
tag_of-wrapping_add p n within = omega arith

pub tag_of-wrapping_sub : (p n : ℕ) → n ≤ address_of p → tag_of (wrapping_sub 64 p n) ≡ tag_of p
tag_of-wrapping_sub p n within = omega arith

-- to add and then to tag is to tag and then to add
pub with_tag-add : (p n t : ℕ) → address_of p + n < 2 ^ 56 → with_tag (p + n) t ≡ with_tag p t + n
with_tag-add p n t within = omega arith

pub with_tag-wrapping_add : (p n t : ℕ) → t < 16 → address_of p + n < 2 ^ 56
    → with_tag (wrapping_add 64 p n) t ≡ wrapping_add 64 (with_tag p t) n
with_tag-wrapping_add p n t small within = omega arith

pub with_tag-wrapping_sub : (p n t : ℕ) → t < 16 → n ≤ address_of p → with_tag (wrapping_sub 64 p n) t ≡ wrapping_sub 64 (with_tag p t) n
with_tag-wrapping_sub p n t small within = omega arith
