-- Pointers and their parts: an address below 2 ^ 56, and a tag (this project's own).
use Rattle.std.specs.Prelude.{◌≡◌, ℕ, ◌+◌, ◌-◌, ◌*◌, ◌%◌, ◌^◌, ◌<◌, ◌≤◌}
use Rattle.std.proofs.Common.{arith}
use Rattle.mt_base.specs.Pointers.{address_of}
use Rattle.a64_laws.specs.Forms.{Points}

-- a block's start with its tag, and an offset behind it
pub Points-start : (at tag : ℕ) → at < 2 ^ 56 → tag < 16 → Points (at + tag * 2 ^ 56) at tag
Points-start at tag below small = record { is_at = omega (arith, below); has_tag = omega (arith, below, small) }

-- A pointer's number is start + tag * 2 ^ 56 + offset modulo 2 ^ 64. An offset behind the start is below 2 ^ 63, and one that
-- is `back` before it is 2 ^ 64 - back.
pub Points-behind : (start tag offset : ℕ) → start + offset < 2 ^ 56 → tag < 16 →
    Points ((start + tag * 2 ^ 56 + offset) % 2 ^ 64) (start + offset) tag
Points-behind start tag offset below small = record { is_at = omega (arith, below, small); has_tag = omega (arith, below, small) }

pub Points-before : (start tag back : ℕ) → start < 2 ^ 56 → back ≤ start → tag < 16 →
    Points ((start + tag * 2 ^ 56 + (2 ^ 64 - back)) % 2 ^ 64) (start - back) tag
Points-before start tag back below within small =
    record { is_at = omega (arith, below, within, small); has_tag = omega (arith, below, within, small) }

-- an offset on, in an instruction
pub Points-on : {pointer at tag : ℕ} (n : ℕ) → at + n < 2 ^ 56 → Points pointer at tag → Points ((pointer + n) % 2 ^ 64) (at + n) tag
Points-on {pointer} {at} {tag} n below p =
    record { is_at = omega (arith, below, p.is_at); has_tag = omega (arith, below, p.is_at, p.has_tag) }

-- SP, or any address without a tag
pub Points-address : (at : ℕ) → at < 2 ^ 56 → Points at at 0
Points-address at below = record { is_at = omega (arith, below); has_tag = omega (arith, below) }

-- the address of SP and an offset on, in an instruction
pub sp_address : (sp n imm12 at : ℕ) → at ≡ sp + imm12 * n → at < 2 ^ 56 → address_of ((sp + imm12 * n) % 2 ^ 64) ≡ at
sp_address sp n imm12 at is below = omega (arith, is, below)
