use Rattle.std.proofs.Common.{◌≡◌, ◌<◌, ◌*◌, ◌%◌, ◌^◌, ℕ, Bool, true, false, refl, arith}
use Rattle.a64_alu.specs.Width.{width}
use Rattle.mte_machine.proofs.Halfword.{each_halfword}
use Rattle.mte_machine.proofs.immediate.halfword_at.Goals as goal

pub returns-clause-value : goal.returns-clause-value
returns-clause-value c =
    let place : c.from-2.result ≡ c.args.hw = omega arith in
    let bits : c.from.result ≡ c.args.halfword = omega arith in
    rw (place, bits) (each_halfword
    (λ h. c.args.halfword * 2 ^ (16 * h) % 2 ^ 64 ≡ c.args.halfword * 2 ^ (16 * h))
    (omega arith) (omega arith) (omega arith) (omega arith) c.args.hw c.requires.place)

-- a halfword at a place is within the register
within : (wide : Bool) (h hw : ℕ) → h < 2 ^ 16 → hw < 4 → (wide ≡ false → hw < 2) → h * 2 ^ (16 * hw) % 2 ^ 64 < 2 ^ width wide
within true h hw small place narrow =
    each_halfword (λ hw. h * 2 ^ (16 * hw) % 2 ^ 64 < 2 ^ 64) (omega arith) (omega arith) (omega arith) (omega arith) hw place
within false h hw small place narrow =
    each_halfword (λ hw. hw < 2 → h * 2 ^ (16 * hw) % 2 ^ 64 < 2 ^ 32)
    (λ _. omega arith) (λ _. omega arith) (λ few. omega arith) (λ few. omega arith) hw place (narrow refl)

pub returns-clause-below : goal.returns-clause-below
returns-clause-below c =
    let place : c.from-2.result ≡ c.args.hw = omega arith in
    let bits : c.from.result ≡ c.args.halfword = omega arith in
    let small : c.args.halfword < 2 ^ 16 = omega arith in
    rw (place, bits) (within c.args.wide c.args.halfword c.args.hw small c.requires.place c.requires.narrow)
