-- The number of four bytes.
use Rattle.std.proofs.Common.{◌≡◌, ℕ, zero, suc, ◌+◌, ◌*◌, ◌<◌, [], ◌∷◌, refl, sym, ◌∙◌, ap, ap₂, arith, w32, add-zero}
use Rattle.std.specs.Int.{from_le_bytes}
use Rattle.mt_base.specs.Memory.{load}

pub four_bytes : (byte : ℕ → ℕ) (at : ℕ) → from_le_bytes w32 (byte at ∷ byte (at + 1) ∷ byte (at + 2) ∷ byte (at + 3) ∷ [])
    ≡ load 4 byte at
unfolding load
four_bytes byte at =
    let third : at + 1 + 1 + 1 ≡ at + 3 = omega arith in
    let second : at + 1 + 1 ≡ at + 2 = omega arith in
    rw (third, second) (omega arith)

moved : (at k : ℕ) → at + 1 + k ≡ at + suc k
moved at k = omega arith

-- the same bytes at another place have the same number
pub load_moved : (n : ℕ) (byte other : ℕ → ℕ) (at from : ℕ) → ((k : ℕ) → k < n → byte (at + k) ≡ other (from + k)) →
    load n byte at ≡ load n other from
unfolding load
load_moved zero byte other at from same = refl
load_moved (suc n) byte other at from same =
    ap₂ (λ b rest. b + 256 * rest)
    (ap byte (sym (add-zero at)) ∙ same 0 (omega arith) ∙ ap other (add-zero from))
    (load_moved n byte other (at + 1) (from + 1)
    (λ k h. ap byte (moved at k) ∙ same (suc k) (omega (arith, h)) ∙ ap other (sym (moved from k))))
