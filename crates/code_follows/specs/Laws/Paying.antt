-- A part whose unit of work a NOP pays for (this project's own).
use Rattle.std.specs.Prelude.{ℕ, ◌≤◌, Bool, [], ◌∷◌, refl}
use Rattle.std.proofs.Common.{arith, ap, sym, subst}
use Rattle.a64_code.specs.declared.instr.Instr.TheVariants.{Nop}
use Rattle.block_meaning.specs.declared.value.Pointer.{Pointer}
use Rattle.block_meaning.specs.Running.{Run, and_then, unit_gives, State as MeaningState}
use Rattle.code_relation.specs.Laws.Outcomes.{spent}
use Rattle.code_relation.specs.Numbers.{IsNumber}
use Rattle.code_relation.specs.Sites.{Given}
use Rattle.gen_base.specs.Code.{plain, in_turn}
use Rattle.gen_expr.specs.Coded.{Emits}
use Rattle.gen_laws.specs.Laws.Unary.{nop-computes}
use Rattle.code_follows.specs.Parts.{Result, Part}
use Rattle.code_follows.specs.Scene.{Scene, IsScene}
use Rattle.code_follows.specs.Laws.Coming.{pays, pays-some}
use Rattle.code_follows.specs.Laws.Computing.{Suits-own}
use Rattle.code_follows.specs.Laws.Going.{Goes-part, Goes-unit, Goes-list, Goes-done, On-at, Part-by}
use Rattle.code_follows.specs.Laws.Lying.{Lies-turn, Lies-plain, Lies-none}

-- a pointer's number is the same after a unit of work
pub IsNumber-spent : {g : Given} {now : MeaningState} {p : Pointer} {n : ℕ} → IsNumber g now p n → IsNumber g (spent now) p n
IsNumber-spent number = record { block = number.block; is = number.is; fits = number.fits; number = number.number }

-- the value of a part, as something else, behind a NOP
pub Part-paid : {A B : Type 0} {k : Scene} {emits : Emits} {needs more : ℕ} {alone : Bool} {result : Result A} {other : Result B}
    {run : Run A} (leaves : ℕ) (f : A → B) → IsScene k → leaves ≤ 90 →
    ((x : A) (now : MeaningState) (n : ℕ) → result x now n → other (f x) (spent now) n) → Part k emits needs more alone result run →
    Part k (λ t r. in_turn (emits t r ∷ plain (Nop ∷ []) ∷ [])) needs leaves alone other (and_then run (λ x. unit_gives (f x)))
Part-paid {emits = emits} {alone = alone} {other = other} leaves f scene fits gives part = Part-by
    (λ first reg from to free lies a now s on.
    let parts = Lies-turn (emits first reg) (plain (Nop ∷ []) ∷ []) lies in
    let rest = Lies-turn (plain (Nop ∷ [])) [] parts.back in
    Goes-part (part.yields first reg from parts.middle free parts.front) (omega arith) (λ is. (refl, is)) (pays-some scene) on
    (λ x then u n came gave. Goes-unit came (λ owing.
    Goes-list {most = 1} leaves (Lies-plain (Nop ∷ []) rest.front) (record { quiet = refl; few = omega arith })
    (λ w same near. nop-computes reg (u.register reg.0) w (ap (λ g. g reg.0) same)
    (omega (arith, near)))
    (Suits-own alone reg (omega (arith, free.high))) owing (omega arith) (omega (arith, fits, pays scene))
    (λ w m holds others done. Goes-done (f x) (On-at (Lies-none rest.back) done) (omega arith)
    (subst (λ number. other (f x) (spent then) number) (sym holds) (gives x then (u.register reg.0) gave.result_is))))))
