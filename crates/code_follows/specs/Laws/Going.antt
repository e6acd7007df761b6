-- How it is shown that code does what a run does: by what the run is made of (this project's own).
use Rattle.std.specs.Prelude.{◌≡◌, ◌≢◌, ℕ, suc, ◌+◌, ◌*◌, ◌^◌, ◌<◌, ◌≤◌, Bool, true, false, List, length, Option, Some, None, refl}
use Rattle.std.proofs.Common.{arith, ap, sym, subst, ◌∙◌}
use Rattle.a64_code.specs.declared.instr.Instr.{Instr}
use Rattle.a64_code.specs.declared.instr.Reg.{Reg}
use Rattle.a64_code.specs.State.{State}
use Rattle.block_meaning.specs.Blocks.{Block}
use Rattle.block_meaning.specs.Running.{Run, Stop, gives, stuck, and_then, unit_then, choice, with_some, by_blocks}
use Rattle.block_meaning.specs.Running.{Result as Result', Goes as Goes', Stops, Divide, Deep, More, IsUndefined, Stuck}
use Rattle.block_meaning.specs.Running.{State as MeaningState}
use Rattle.code_relation.specs.Follows.{setting}
use Rattle.code_relation.specs.Laws.Follows.{does_unit}
use Rattle.code_relation.specs.Laws.Outcomes.{one_less, spent, outcome_of-then}
use Rattle.code_relation.specs.Laws.Told.{product_split, less_work}
use Rattle.code_relation.specs.Outcomes.{outcome_of}
use Rattle.code_relation.specs.Relates.{Relates}
use Rattle.code_runs.specs.Bounded.{Account, just, sparing, later, Case, Bounded}
use Rattle.code_runs.specs.Laws.Bounded.{IsLooser, IsWider-same, Reaches-changes, opened, done, after, unsaid, changes}
use Rattle.gen_expr.specs.Coded.{Emits}
use Rattle.code_runs.specs.Outcome.{Outcome, Completes, Finishes, Lacks, Unsaid, followed_by}
use Rattle.code_follows.specs.Later.{Ran}
use Rattle.code_follows.specs.Parts.{Result, Gave, On, Goes, Yields, Part}
use Rattle.code_follows.specs.Scene.{Scene, given_in, Lies, IsFree}
use Rattle.gen_laws.specs.Computes.{Computes}
use Rattle.code_follows.specs.Steps.{Walks, Suits}
use Rattle.code_follows.specs.Laws.Coming.{Came-start, Came-spent, Came-walks, Came-part, Walks-computes, Computes-where}
use Rattle.code_follows.specs.Laws.Lying.{HasInstrs}
use Rattle.code_follows.specs.Laws.Walking.{are_quiet, Short}

-- ---- work

spent_one : (left : ℕ) (now : MeaningState) → now.work ≡ suc left → (spent now).work ≡ left
spent_one left now is = ap one_less is

per_one : (per left : ℕ) (now : MeaningState) → now.work ≡ suc left → per * now.work ≡ per * (spent now).work + per
per_one per left now is =
    ap (λ w. per * w) (is ∙ (let e : suc left ≡ left + 1 = omega arith in e))
    ∙ product_split per left 1
    ∙ ap (λ w. per * w + per * 1) (sym (spent_one left now is))
    ∙ (let e : per * (spent now).work + per * 1 ≡ per * (spent now).work + per = omega arith in e)

-- an address by another name
pub On-at : {k : Scene} {first : ℕ} {reg : Reg} {alone : Bool} {s : State} {a : Account} {owes spare from middle : ℕ} {now : MeaningState}
    {t : State} → from ≡ middle → On k first reg alone s from a owes spare now t → On k first reg alone s middle a owes spare now t
On-at {k} {first} {reg} {alone} {s} {a} {owes} {spare} {now = now} {t} same on =
    subst (λ (at : ℕ). On k first reg alone s at a owes spare now t) same on

-- what completes gave a value
pub completes-goes : {A : Type 0} {a : A} {now : MeaningState} (r : Result' A) → outcome_of r ≡ Completes a now → r ≡ Goes' a now
completes-goes (Goes' a now) is = cc
completes-goes (Stops Divide now) is = absurd (cc)
completes-goes (Stops Deep now) is = absurd (cc)
completes-goes (Stops More now) is = absurd (cc)
completes-goes (Stops (IsUndefined u) now) is = absurd (cc)
completes-goes (Stops Stuck now) is = absurd (cc)

-- ---- the words of a run

module _ {A : Type 0} {k : Scene} {first : ℕ} {reg : Reg} {alone : Bool} {result : Result A} {s : State} {to leaves : ℕ} where
  pub Goes-same : {a : Account} {m n : Run A} {now : MeaningState} {t : State} → m now ≡ n now →
      Goes k first reg alone result s to leaves a n now t → Goes k first reg alone result s to leaves a m now t
  Goes-same {a} {m} {n} {now} {t} same goes = record {
    bounded = subst (λ r. Bounded (setting k.code) a (λ v. sparing leaves) t (Gave k first reg alone result s to) (outcome_of r)) (sym same)
        goes.bounded;
  }

  pub Goes-stuck : {a : Account} {now : MeaningState} {t : State} → Goes k first reg alone result s to leaves a stuck now t
  Goes-stuck = record { bounded = unsaid }

  -- it has come to the end, with its value
  pub Goes-done : {a : Account} {spare : ℕ} {now : MeaningState} {t : State} (x : A) → On k first reg alone s to a 0 spare now t →
      leaves ≤ spare →
      result x now (t.register reg.0) → Goes k first reg alone result s to leaves a (gives x) now t
  Goes-done x on enough is = record {
    bounded = done (record { least = omega (arith, on.least); most = omega (arith, on.most, enough) })
        (record { came = on.came; result_is = is });
  }

  -- some steps are made, which pay for what is owed
  pub Goes-walks : {a : Account} {owes spare : ℕ} {from middle : ℕ} {m : Run A} {now : MeaningState} {t u : State} (n left : ℕ) →
      Walks k middle n t u → (alone ≡ true → (r : ℕ) → r ≢ reg.0 → u.register r ≡ t.register r) →
      On k first reg alone s from a owes spare now t → owes ≤ n → n + left ≤ spare →
      (On k first reg alone s middle (later n a) 0 left now u → Goes k first reg alone result s to leaves (later n a) m now u) →
      Goes k first reg alone result s to leaves a m now t
  Goes-walks {a} {owes} {spare} {u = u} n left walks others on pays fits more =
      record {
        bounded = after walks.led
            (more (record {
              came = Came-walks walks others on.came;
              least = omega (arith, on.least, pays);
              most = omega (arith, on.most, fits);
              within = on.within;
            })).bounded;
      }

  -- a unit of work is spent, and a step is owed
  pub Goes-unit : {a : Account} {spare : ℕ} {at : ℕ} {m : Run A} {now : MeaningState} {t : State} →
      On k first reg alone s at a 0 spare now t →
      (On k first reg alone s at a 1 (spare + k.code.per) (spent now) t → Goes k first reg alone result s to leaves a m (spent now) t) →
      Goes k first reg alone result s to leaves a (unit_then m) now t
  Goes-unit {a} {spare} {at} {m} {now} {t} on more = record {
    bounded = does_unit k.code m now
        (record { least = omega (arith, on.least); most = omega (arith, on.most) })
        on.came.comes.relates.outside.output
        (λ left is. (more (owing left is)).bounded);
  }
    where
      owing : (left : ℕ) → now.work ≡ suc left → On k first reg alone s at a 1 (spare + k.code.per) (spent now) t
      owing left is = record {
        came = Came-spent on.came;
        least = omega (arith, on.least, is, spent_one left now is);
        most = omega (arith, on.most, per_one k.code.per left now is);
        within = omega (arith, on.within, is, spent_one left now is);
      }

  -- something that is there
  pub Goes-some : {B : Type 0} {a : Account} {f : B → Run A} {now : MeaningState} {t : State} (o : Option B) →
      ((b : B) → o ≡ Some b → Goes k first reg alone result s to leaves a (f b) now t) →
      Goes k first reg alone result s to leaves a (with_some o f) now t
  Goes-some None more = Goes-stuck
  Goes-some (Some b) more = record { bounded = (more b refl).bounded }

  pub Goes-choice : {a : Account} {m n : Run A} {now : MeaningState} {t : State} (b : Bool) →
      (b ≡ true → Goes k first reg alone result s to leaves a m now t) → (b ≡ false → Goes k first reg alone result s to leaves a n now t) →
      Goes k first reg alone result s to leaves a (choice b m n) now t
  Goes-choice true one other = record { bounded = (one refl).bounded }
  Goes-choice false one other = record { bounded = (other refl).bounded }

  pub Goes-blocks : {a : Account} (f : List Block → Run A) {now : MeaningState} {t : State} →
      Goes k first reg alone result s to leaves a (f now.blocks) now t → Goes k first reg alone result s to leaves a (by_blocks f) now t
  Goes-blocks f goes = record { bounded = goes.bounded }

  -- a part, and then what stands on its value, of which is known that the part's run gave it
  pub Goes-part-ran : {B : Type 0} {a : Account} {spare sub_first from middle sub_leaves : ℕ} {sub_reg : Reg} {sub_alone : Bool}
      {sub_result : Result B}
      {m : Run B} {f : B → Run A} {now : MeaningState} {t : State} →
      Yields k sub_first sub_reg sub_alone sub_result from middle sub_leaves m → first ≤ sub_first →
      (alone ≡ true → (sub_reg.0 ≡ reg.0) × (sub_alone ≡ true)) → 1 ≤ k.code.per → On k first reg alone s from a 0 spare now t →
      ((x : B) (then : MeaningState) (u : State) (n : ℕ) → On k first reg alone s middle (later n a) 0 (spare + sub_leaves) then u →
      Gave k sub_first sub_reg sub_alone sub_result t middle x then u → Ran m now x then →
      Goes k first reg alone result s to leaves (later n a) (f x) then u) →
      Goes k first reg alone result s to leaves a (and_then m f) now t
  Goes-part-ran {B} {a} {spare} {sub_first} {from} {middle} {sub_leaves} {sub_reg} {sub_alone} {sub_result} {m} {f} {now} {t} yields
      above others pays on more =
      record {
        bounded = subst (λ r. Bounded (setting k.code) a (λ v. sparing leaves) t (Gave k first reg alone result s to) r)
            (sym (outcome_of-then m f now))
            (by_outcome (outcome_of (m now)) refl (yields.goes now t on.within on.came.comes.relates on.came.comes.pc).bounded.does);
      }
    where
      P : B → MeaningState → State → Type 0
      P = Gave k sub_first sub_reg sub_alone sub_result t middle

      rest : B → MeaningState → Outcome MeaningState Stop A
      rest x then = outcome_of (f x then)

      looser : IsLooser (opened (setting k.code) now.work) a
      looser = record { least = omega (arith, on.least); most = omega (arith, on.most) }

      by_outcome : (r : Outcome MeaningState Stop B) → outcome_of (m now) ≡ r → Case (setting k.code) (opened (setting k.code) now.work)
          (λ v. sparing sub_leaves) t P r →
          Bounded (setting k.code) a (λ v. sparing leaves) t (Gave k first reg alone result s to) (followed_by r rest)
      by_outcome (Completes x then) is does =
          after does.led
          (more x then does.to does.steps
          (record {
            came = Came-part above others does.there.came on.came;
            least = omega (arith, on.least, does.least);
            most = omega (arith, on.most, does.most);
            within = omega (arith, on.within, less_work k.code.per then.work now.work pays (omega (arith, does.most)));
          })
          does.there (record { is = completes-goes (m now) is })).bounded
      by_outcome (Finishes end then) is does = record {
        does = Reaches-changes (record { least = omega (arith, looser.least); most = omega (arith, looser.most) }) (IsWider-same just)
            (λ u over. over) does;
      }
      by_outcome (Lacks then) is does = record { does = Reaches-changes looser (IsWider-same just) (λ u same. same) does }
      by_outcome Unsaid is does = record { does = tt }

  -- the same, where that does not count
  pub Goes-part : {B : Type 0} {a : Account} {spare sub_first from middle sub_leaves : ℕ} {sub_reg : Reg} {sub_alone : Bool}
      {sub_result : Result B}
      {m : Run B} {f : B → Run A} {now : MeaningState} {t : State} →
      Yields k sub_first sub_reg sub_alone sub_result from middle sub_leaves m → first ≤ sub_first →
      (alone ≡ true → (sub_reg.0 ≡ reg.0) × (sub_alone ≡ true)) → 1 ≤ k.code.per → On k first reg alone s from a 0 spare now t →
      ((x : B) (then : MeaningState) (u : State) (n : ℕ) → On k first reg alone s middle (later n a) 0 (spare + sub_leaves) then u →
      Gave k sub_first sub_reg sub_alone sub_result t middle x then u →
      Goes k first reg alone result s to leaves (later n a) (f x) then u) →
      Goes k first reg alone result s to leaves a (and_then m f) now t
  Goes-part {f = f} yields above others pays on more =
      Goes-part-ran {f = f} yields above others pays on (λ x then u n after gave ran. more x then u n after gave)

  -- instructions that compute something, of which there are so many
  pub Goes-computes : {a : Account} {owes spare from middle : ℕ} {m : Run A} {now : MeaningState} {t : State} {instrs : List Instr}
      {into : Reg} {spares : ℕ → Type 0} {value : ℕ} (left : ℕ) → HasInstrs k instrs from middle → are_quiet instrs ≡ true →
      (computes : Computes instrs into value spares t) → Suits alone reg into spares →
      On k first reg alone s from a owes spare now t → owes ≤ length instrs → length instrs + left ≤ spare →
      (On k first reg alone s middle (later (length instrs) a) 0 left now computes.to →
      Goes k first reg alone result s to leaves (later (length instrs) a) m now computes.to) →
      Goes k first reg alone result s to leaves a m now t
  Goes-computes {instrs = instrs} left has quiet computes suits on pays fits more =
      Goes-walks (length instrs) left (Walks-computes has quiet computes suits on.came.comes.relates on.came.comes.pc)
      (λ is r other. computes.registers r (λ same. other (same ∙ (suits.others is).0)) ((suits.others is).1 r other)) on pays fits more

  -- the same of a list that may be empty, from wherever it stands
  pub Goes-list : {a : Account} {owes spare from middle : ℕ} {m : Run A} {now : MeaningState} {t : State} {instrs : List Instr}
      {into : Reg} {spares : ℕ → Type 0} {value most : ℕ} (left : ℕ) → HasInstrs k instrs from middle → Short most instrs →
      ((u : State) → u.register ≡ t.register → u.pc < 2 ^ 56 → Computes instrs into value spares u) → Suits alone reg into spares →
      On k first reg alone s from a owes spare now t → owes ≤ length instrs → most + left ≤ spare →
      ((u : State) (n : ℕ) → u.register into.0 ≡ value → ((r : ℕ) → r ≢ into.0 → spares r → u.register r ≡ t.register r) →
      On k first reg alone s middle (later n a) 0 left now u → Goes k first reg alone result s to leaves (later n a) m now u) →
      Goes k first reg alone result s to leaves a m now t
  Goes-list {t = t} {instrs} {into} {spares} {value} left has short each suits on pays fits more =
      let computes : Computes instrs into value spares t = Computes-where has on.came.comes.pc each in
      Goes-computes left has short.quiet computes suits on pays (omega (arith, short.few, fits))
      (more computes.to (length instrs) computes.holds computes.registers)

-- ---- a part

-- where it begins, nothing is owed and nothing is to spare
On-start : {k : Scene} {first : ℕ} {reg : Reg} {alone : Bool} {from : ℕ} {now : MeaningState} {s : State} → now.work ≤ k.code.reach →
    Relates (given_in k) k.here now s → s.pc ≡ from → On k first reg alone s from (opened (setting k.code) now.work) 0 0 now s
On-start within relates at =
    record { came = Came-start relates at; least = omega arith; most = omega arith; within = within }

pub Part-by : {A : Type 0} {k : Scene} {emits : Emits} {needs leaves : ℕ} {alone : Bool} {result : Result A} {run : Run A} →
    ((first : ℕ) (reg : Reg) (from to : ℕ) → IsFree k needs first reg → Lies k (emits first reg) from to → (a : Account)
    (now : MeaningState) (s : State) → On k first reg alone s from a 0 0 now s → Goes k first reg alone result s to leaves a run now s) →
    Part k emits needs leaves alone result run
Part-by {k = k} each = record {
  yields = λ first reg from to free lies. record {
    goes = λ now s within relates at.
        each first reg from to free lies (opened (setting k.code) now.work) now s (On-start within relates at);
  };
}

-- what leaves more leaves less
pub Part-leaves : {A : Type 0} {k : Scene} {emits : Emits} {needs more : ℕ} {alone : Bool} {result : Result A} {run : Run A} (fewer : ℕ) →
    fewer ≤ more → Part k emits needs more alone result run → Part k emits needs fewer alone result run
Part-leaves fewer within part = record {
  yields = λ first reg from to free lies. record {
    goes = λ now s reach relates at.
        let goes = ((part.yields first reg from to free lies).goes now s reach relates at).bounded in
        record {
          bounded = changes (record { least = omega arith; most = omega arith }) (λ v. record { wider = omega (arith, within) })
              (λ v then u gave. gave) goes;
        };
  };
}
