-- Two operands: what stands behind the first one.
use Rattle.std.proofs.Common.{◌≡◌, refl, ℕ, suc, ◌+◌, Bool, true, false, [], ◌∷◌, ◌++◌, length}
use Rattle.std.specs.Prelude.{if◌then◌else◌}
use Rattle.a64_code.specs.declared.instr.Reg.{Reg}
use Rattle.gen_base.specs.Code.{plain, in_turn}
use Rattle.gen_base.specs.Registers.{move}
use Rattle.gen_base.specs.Waiting.{keep, fetch}
use Rattle.gen_expr.specs.Coded.{Emits, Coded}
use Rattle.gen_expr.specs.Nodes.{first_waits}

-- the second is evaluated while the first waits, and then the first is in a register
abbrev pub second_by : Bool → Reg → Emits → Emits
second_by alone into b t r =
    if alone then in_turn (plain (move r into ∷ []) ∷ b t r ∷ [])
    else in_turn (plain (keep t r) ∷ b (suc t) r ∷ plain (fetch t into) ∷ [])

abbrev pub second : Reg → Coded → Emits
second into b = second_by b.alone into b.value

abbrev waits_at : Bool → Reg → Emits → Emits → Emits
waits_at alone into first b t r =
    if alone then in_turn (first t r ∷ plain (move r into ∷ []) ∷ b t r ∷ [])
    else in_turn (first t r ∷ plain (keep t r) ∷ b (suc t) r ∷ plain (fetch t into) ∷ [])

waits_by : (alone : Bool) (into : Reg) (first b : Emits) (t : ℕ) (r : Reg) (at : ℕ) →
    waits_at alone into first b t r at ≡ first t r at ++ second_by alone into b t r (at + length (first t r at))
waits_by true into first b t r at = refl
waits_by false into first b t r at = refl

pub first_waits_is : (into : Reg) (first : Emits) (b : Coded) (t : ℕ) (r : Reg) (at : ℕ) →
    first_waits into first b t r at ≡ first t r at ++ second into b t r (at + length (first t r at))
first_waits_is into first b t r at = waits_by b.alone into first b.value t r at

-- ---- places

-- with or without the unit of work of a dereference
abbrev pub place_by : Bool → Coded → Emits
place_by pays e = if pays then e.place else e.pointer
