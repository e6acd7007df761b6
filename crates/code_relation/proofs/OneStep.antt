-- An example: one instruction that does nothing follows a tree that spends one unit of work and does nothing.
use Rattle.std.specs.Prelude.{◌≡◌, ℕ, zero, suc, ◌+◌, ◌*◌, ◌^◌, ◌<◌, ◌≤◌, [], ◌∷◌, refl}
use Rattle.std.proofs.Common.{arith, ap, sym, ◌∙◌}
use Rattle.a64_code.specs.declared.instr.Instr.TheVariants.{Nop}
use Rattle.a64_code.specs.State.{State}
use Rattle.a64_code.specs.Stepped.{Leads}
use Rattle.a64_code.specs.Step.{carried_out, step}
use Rattle.a64_laws.specs.Forms.{next}
use Rattle.a64_laws.specs.Laws.Extending.{passed_over}
use Rattle.mte_machine.specs.Run.{Steps}
use Rattle.mte_machine.specs.Laws.Steps.{Steps-one}
use Rattle.block_meaning.specs.Running.{Function, Context, gives, unit_then, State as MeaningState}
use Rattle.code_runs.specs.Bounded.{just}
use Rattle.code_runs.specs.Laws.Bounded.{done, after}
use Rattle.code_runs.specs.Laws.Ranges.{IsInRange-Steps}
use Rattle.code_runs.specs.Laws.Within.{StepsWithin-one}
use Rattle.sym_code.specs.declared.item.SymItem.TheVariants as item
use Rattle.code_relation.specs.Follows.{Code, Tree, Does, Follows}
use Rattle.code_relation.specs.Items.{Place, IsAt, HasInstr, StandsAt}
use Rattle.code_relation.specs.Relates.{Relates}
use Rattle.code_relation.specs.Laws.Follows.{does_unit}
use Rattle.code_relation.specs.Laws.Kept.{SameInjected, Injects-same, Injects-with}
use Rattle.code_relation.specs.Laws.Outcomes.{one_less, spent}
use Rattle.code_relation.specs.Laws.Told.{product_split}

-- from one address to another
abbrev pause : Code → ℕ → ℕ → Tree (Unit {0})
pause c from to = record {
  run = λ here. unit_then (gives tt);
  Begins = λ here now s. s.pc ≡ from;
  before = 0;
  room = λ extra v. just;
  Completes = λ here s extra v now t. Relates c.given here now t × (t.pc ≡ to);
}

passes : (s : State) → SameInjected s (next s)
unfolding next
passes s = record { sp = refl; base = refl; byte = refl; tag = refl; regions = refl; guard = refl; choices = refl; drawn = refl }

next_pc : (s : State) (from : ℕ) → s.pc ≡ from → from + 4 < 2 ^ 64 → (next s).pc ≡ from + 4
unfolding next
next_pc s from is fits = omega (arith, is, fits)

same_outside : (s : State) → (next s).outside ≡ s.outside
unfolding next
same_outside s = refl

-- a pair of states that are related, with a unit of work less and a step more
related : (c : Code) {here : Context} {now : MeaningState} {s : State} → Steps 1 s (next s) → Relates c.given here now s →
    Relates c.given here (spent now) (next s)
related c {here} {now} {s} steps relates = record {
  injects = Injects-same (passes s) (IsInRange-Steps 1 steps relates.injects.in_range)
      (Injects-with (record { work = (spent now).work; input = now.input; output = now.output }) relates.injects);
  outside = record {
    output = ap (λ o. o.output) (same_outside s) ∙ relates.outside.output;
    input = ap (λ o. o.answers) (same_outside s) ∙ relates.outside.input;
    bytes = relates.outside.bytes;
    takes = ap (λ o. o.next_failure) (same_outside s) ∙ relates.outside.takes;
    puts = ap (λ o. o.put_failure) (same_outside s) ∙ relates.outside.puts;
  };
}

rest : (work left : ℕ) → work ≡ suc left → work ≡ one_less work + 1
rest zero left is = absurd (omega (arith, is))
rest (suc work) left is = omega arith

paid : (per work left : ℕ) → work ≡ suc left → 1 ≤ per → 1 + per * one_less work ≤ per * work
paid per zero left is pays = absurd (omega (arith, is))
paid per (suc work) left is pays = omega (arith, pays, product_split per work 1)

pause_follows : (c : Code) (f : Function) (p : Place) → StandsAt c f p (item.Plain Nop ∷ []) → 1 ≤ c.per →
    Follows c (pause c (p.at 0) (p.at 1))
pause_follows c f p stands pays =
    record { does = λ here now s within relates begins. by_instr (stands.acts 0 (item.Plain Nop) refl) here now s relates begins }
  where
    one : HasInstr c (p.at 0) Nop → (here : Context) (now : MeaningState) (s : State) → Relates c.given here now s → s.pc ≡ p.at 0 →
        IsAt c (p.at 0) s
    one has here now s relates begins =
        record { pc = begins; as_loaded = relates.injects.as_loaded; in_range = relates.injects.in_range }

    by_instr : HasInstr c (p.at 0) Nop × (p.at 1 ≡ p.at 0 + 4) → (here : Context) (now : MeaningState) (s : State) →
        Relates c.given here now s → s.pc ≡ p.at 0 → Does c (pause c (p.at 0) (p.at 1)) here now s
    by_instr acts here now s relates begins =
        let is_at = one acts.0 here now s relates begins in
        let leads : step s ≡ Leads (next s) =
        ap (λ instr. carried_out instr s) (acts.0.is s is_at) ∙ passed_over s in
        let steps : Steps 1 s (next s) = Steps-one s (next s) leads in
        record {
          extra = 0;
          bounded = does_unit c (gives tt) now (record { least = omega arith; most = omega arith }) relates.outside.output (λ left work.
              after (StepsWithin-one steps (acts.0.inside s is_at))
              (done
              (record {
                least = omega (arith, rest now.work left work, work);
                most = omega (arith, paid c.per now.work left work pays);
              })
              (related c steps relates, next_pc s (p.at 0) begins (omega (arith, acts.0.below)) ∙ sym acts.1)));
        }
