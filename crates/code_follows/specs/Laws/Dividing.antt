-- The test of a divisor, where a division by 0 is told and ends the run (this project's own).
use Rattle.std.specs.Prelude.{◌≡◌, ◌≢◌, ℕ, ◌+◌, ◌<◌, ◌≤◌, Bool, [], ◌∷◌}
use Rattle.std.proofs.Common.{arith, ap, sym, subst, inl, inr, ◌∙◌}
use Rattle.std.proofs.lemmas.Bool.{cases_eq}
use Rattle.a64_code.specs.declared.instr.Instr.TheVariants.{Svc}
use Rattle.a64_code.specs.declared.instr.Reg.{Reg}
use Rattle.a64_code.specs.State.{State, at_pc}
use Rattle.a64_code.specs.Step.{carried_out}
use Rattle.a64_laws.specs.Laws.Services.{divide_told}
use Rattle.block_meaning.specs.Running.{Divide, Run, Stops, stops, State as MeaningState}
use Rattle.code_relation.specs.Items.{HasInstr, JumpsOnZero}
use Rattle.code_relation.specs.Outcomes.{outcome_of}
use Rattle.code_relation.specs.Follows.{setting}
use Rattle.code_runs.specs.Bounded.{Account, later, sparing, Bounded}
use Rattle.code_runs.specs.Laws.Bounded.{finishes}
use Rattle.gen_base.specs.Code.{only, plain, in_turn}
use Rattle.gen_base.specs.Integers.{unless_zero}
use Rattle.sym_code.specs.declared.item.SymItem.TheVariants as item
use Rattle.code_follows.specs.Parts.{Result, On, Gave, Goes}
use Rattle.code_follows.specs.Scene.{Scene, Lies}
use Rattle.code_follows.specs.Laws.Jumping.{Lies-label, Lies-other, on_zero_jump, on_other_jump, Goes-jump}
use Rattle.code_follows.specs.Laws.Lying.{HasOne, Lies-turn, Lies-one, Lies-none, Lies-labelled}
use Rattle.code_follows.specs.Laws.Operand.{IsAt-on}

-- the run is over by a division by 0, which the next instruction tells
pub Goes-divides : {A : Type 0} {k : Scene} {first : ℕ} {reg : Reg} {alone : Bool} {result : Result A} {s : State} {to leaves at : ℕ}
    {a : Account} {owes spare : ℕ} {run : Run A} {now : MeaningState} {t : State} → run now ≡ Stops Divide now →
    HasInstr k.code at (Svc 4) → On k first reg alone s at a owes spare now t → owes ≤ 1 → 1 ≤ spare →
    Goes k first reg alone result s to leaves a run now t
Goes-divides {k = k} {first} {reg} {alone} {result} {s} {to} {leaves} {a = a} {now = now} {t} is has on pays enough = record {
  bounded = subst (λ r. Bounded (setting k.code) a (λ v. sparing leaves) t (Gave k first reg alone result s to) (outcome_of r)) (sym is)
      (finishes (record { least = omega (arith, on.least, pays); most = omega (arith, on.most, enough) })
      (record {
        inside = has.inside t (IsAt-on on);
        output = on.came.comes.relates.outside.output;
        over = record {
          ends = ap (λ i. carried_out i t) (has.is t (IsAt-on on)) ∙ divide_told t;
          input = on.came.comes.relates.outside.input;
        };
      }));
}

-- where the divisor is tested
record LiesTest (k : Scene) (r : Reg) (from to : ℕ) : Type 0 where
  told : ℕ
  branch : JumpsOnZero k.code from told to r
  tells : HasInstr k.code told (Svc 4)

lies_test : {k : Scene} {from to : ℕ} (r : Reg) → Lies k (unless_zero r) from to → LiesTest k r from to
lies_test {k} {from} {to} r lies =
    let l = Lies-labelled (λ n. in_turn (only (item.JumpIfNotZero r n) ∷ plain (Svc 4 ∷ []) ∷ only (item.Label n) ∷ [])) lies in
    let p = Lies-turn (only (item.JumpIfNotZero r l.number)) (plain (Svc 4 ∷ []) ∷ only (item.Label l.number) ∷ []) l.lies in
    let q = Lies-turn (plain (Svc 4 ∷ [])) (only (item.Label l.number) ∷ []) p.back in
    let e = Lies-turn (only (item.Label l.number)) [] q.back in
    let last = Lies-label l.number e.front in
    let one : HasOne k (Svc 4) p.middle q.middle = Lies-one (Svc 4) q.front in
    record {
      told = p.middle;
      branch = subst (λ (at : ℕ). JumpsOnZero k.code from p.middle at r) (last.label ∙ last.none ∙ Lies-none e.back)
          (Lies-other r l.number p.front);
      tells = one.has;
    }

-- A unit of work that is owed is paid, and the divisor is not 0, or the run is over.
pub Goes-unless_zero : {A : Type 0} {k : Scene} {first : ℕ} {reg : Reg} {alone : Bool} {result : Result A} {s : State}
    {to leaves from middle : ℕ} {a : Account} {owes spare : ℕ} {run : Run A} {now : MeaningState} {t : State} (r : Reg) (left : ℕ) →
    Lies k (unless_zero r) from middle → r.0 < 31 → (t.register r.0 ≡ 0 → run now ≡ Stops Divide now) →
    On k first reg alone s from a owes spare now t → owes ≤ 1 → 3 + left ≤ spare →
    ((n : ℕ) → t.register r.0 ≢ 0 → On k first reg alone s middle (later n a) 0 left now (at_pc middle t) →
    Goes k first reg alone result s to leaves (later n a) run now (at_pc middle t)) →
    Goes k first reg alone result s to leaves a run now t
Goes-unless_zero {t = t} r left lies small stops on pays fits more =
    let test = lies_test r lies in
    elim (cases_eq (t.register r.0) 0) [
      | inl none ↦
          Goes-jump 1 (on_zero_jump test.branch small t (IsAt-on on) none) on pays (omega (arith, fits))
          (λ there. Goes-divides (stops none) test.tells there (omega arith) (omega arith))
      | inr some ↦
          Goes-jump left (on_other_jump test.branch small t (IsAt-on on) some) on pays (omega (arith, fits)) (λ there. more _ some there)
    ]
