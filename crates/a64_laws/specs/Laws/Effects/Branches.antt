-- Where branches go: on or back by so many words (this project's own).
use Rattle.std.specs.Prelude.{◌≡◌, ℕ, suc, ◌+◌, ◌-◌, ◌*◌, ◌%◌, ◌^◌, ◌<◌, ◌≤◌}
use Rattle.std.proofs.Common.{arith, ap, ◌∙◌, pow_pos, pow_mono}
use Rattle.std.proofs.Math.Nat.{two-pow-succ}
use Rattle.mt_base.specs.Extension.{sign_extend}
use Rattle.mt_base.specs.Laws.Extension.{sign_extend_low, sign_extend_high}
use Rattle.mt_base.specs.Laws.Wrapping.{wrap_below}
use Rattle.a64_code.specs.State.{State}
use Rattle.a64_code.specs.Branches.{target}

-- half of the numbers of so many bits are not negative
halves : (bits : ℕ) → 1 ≤ bits → 2 ^ bits ≡ 2 ^ (bits - 1) + 2 ^ (bits - 1)
halves bits some = ap (λ (n : ℕ). 2 ^ n) (let e : bits ≡ suc (bits - 1) = omega arith in e) ∙ two-pow-succ (bits - 1)

pub target-forward : (bits words : ℕ) (s : State) → 1 ≤ bits → bits ≤ 64 → words < 2 ^ (bits - 1) → s.pc + 4 * words < 2 ^ 64 →
    target bits words s ≡ s.pc + 4 * words
target-forward bits words s some most small within = rw same (omega (arith, within))
  where
    below : words % 2 ^ bits ≡ words
    below = wrap_below bits words (omega (arith, small, halves bits some))

    same : sign_extend bits 64 words ≡ words
    same = sign_extend_low bits 64 words most (rw below small) ∙ below

pub target-back : (bits words : ℕ) (s : State) → 1 ≤ bits → bits ≤ 64 → 1 ≤ words → words ≤ 2 ^ (bits - 1) → 4 * words ≤ s.pc →
    s.pc < 2 ^ 64 → target bits (2 ^ bits - words) s ≡ s.pc - 4 * words
target-back bits words s some most one small within fits = rw same (omega (arith, within, fits, most))
  where
    below : (2 ^ bits - words) % 2 ^ bits ≡ 2 ^ bits - words
    below = wrap_below bits (2 ^ bits - words) (omega (arith, one, pow_pos bits))

    same : sign_extend bits 64 (2 ^ bits - words) ≡ 2 ^ 64 - words
    same =
        omega (
          arith,
          sign_extend_high bits 64 (2 ^ bits - words) most (rw below (omega (arith, small, halves bits some))),
          below,
          small,
          halves bits some,
          pow_mono most,
        )
