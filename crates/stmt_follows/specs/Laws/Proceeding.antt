-- How it is shown that the code of a statement does what a run does: by what the run is made of (this project's own). It is as in
-- code_follows, but where it ends is anything.
use Rattle.std.specs.Prelude.{◌≡◌, ℕ, zero, suc, ◌+◌, ◌*◌, ◌<◌, ◌≤◌, Bool, true, false, not, nat_eq, List, length}
use Rattle.std.specs.Prelude.{Option, Some, None, refl}
use Rattle.std.proofs.Common.{arith, ap, sym, subst, ◌∙◌}
use Rattle.c_ast.specs.declared.token.Span.{Span}
use Rattle.a64_code.specs.declared.instr.Instr.{Instr}
use Rattle.a64_code.specs.declared.instr.Reg.{Reg}
use Rattle.a64_code.specs.State.{State, at_pc}
use Rattle.block_meaning.specs.Operators.{is_true}
use Rattle.block_meaning.specs.Running.{Run, Stop, Stops, IsUndefined, Undefined, gives, stuck, and_then, goes_on, unit_then, choice}
use Rattle.block_meaning.specs.Running.{with_some}
use Rattle.block_meaning.specs.Running.{State as MeaningState}
use Rattle.block_meaning.specs.declared.value.Value.{Value}
use Rattle.code_follows.specs.Parts.{Result, Yields}
use Rattle.code_follows.specs.Scene.{Scene, given_in}
use Rattle.code_follows.specs.Steps.{Walks, Suits}
use Rattle.code_follows.specs.Laws.Coming.{Came-spent, Came-walks, Came-part, Walks-computes}
use Rattle.code_follows.specs.Laws.Lying.{HasInstrs}
use Rattle.code_follows.specs.Laws.Truth.{TruthIs, known, unknown}
use Rattle.code_follows.specs.Laws.Walking.{are_quiet}
use Rattle.code_relation.specs.Ends.{Reached}
use Rattle.code_relation.specs.Follows.{Code, setting}
use Rattle.code_relation.specs.Items.{GoesTo}
use Rattle.code_relation.specs.Laws.Follows.{does_unit}
use Rattle.code_relation.specs.Laws.Outcomes.{one_less, spent, outcome_of-then}
use Rattle.code_relation.specs.Laws.Told.{product_split}
use Rattle.code_relation.specs.Outcomes.{outcome_of}
use Rattle.code_runs.specs.Bounded.{Account, Room, just, later, Case, Bounded}
use Rattle.code_runs.specs.Laws.Bounded.{IsLooser, IsWider-same, Reaches-changes, opened, done, after, finishes, unsaid}
use Rattle.code_runs.specs.Outcome.{Outcome, Completes, Finishes, Lacks, Unsaid, followed_by}
use Rattle.gen_laws.specs.Computes.{Computes}
use Rattle.gen_stmt.specs.Loops.{result}
use Rattle.stmt_follows.specs.Parts.{Bounds, IsAhead, Here, Proceeds}

-- ---- work

pub spent_one : (left : ℕ) (now : MeaningState) → now.work ≡ suc left → (spent now).work ≡ left
spent_one left now is = ap one_less is

pub per_one : (per left : ℕ) (now : MeaningState) → now.work ≡ suc left → per * now.work ≡ per * (spent now).work + per
per_one per left now is =
    ap (λ w. per * w) (is ∙ (let e : suc left ≡ left + 1 = omega arith in e))
    ∙ product_split per left 1
    ∙ ap (λ w. per * w + per * 1) (sym (spent_one left now is))
    ∙ (let e : per * (spent now).work + per * 1 ≡ per * (spent now).work + per = omega arith in e)

-- where fewer steps are over than a unit pays, no work is won
less_over : (per left work over : ℕ) → over < per → per * left ≤ per * work + over → left ≤ work
less_over per zero work over few less = omega arith
less_over per (suc left) zero over few less = absurd (omega (arith, few, less, product_split per left 1))
less_over per (suc left) (suc work) over few less =
    let fewer : left ≤ work =
    less_over per left work over few (omega (arith, less, product_split per left 1, product_split per work 1)) in
    omega (arith, fewer)

-- ---- where code has come

pub Bounds-here : {k : Scene} {s : State} {at : ℕ} {a : Account} {spare : ℕ} {now : MeaningState} {t : State} →
    Here k s at a 0 spare now t → Bounds k a spare 0 now
Bounds-here here = record { least = omega (arith, here.least); most = omega (arith, here.most); within = here.within }

-- less is to spare
pub Here-less : {k : Scene} {s : State} {at : ℕ} {a : Account} {owes spare : ℕ} {now : MeaningState} {t : State} (less : ℕ) →
    less ≤ spare → Here k s at a owes spare now t → Here k s at a owes less now t
Here-less less fits here = record {
  came = here.came;
  least = here.least;
  most = omega (arith, here.most, fits);
  within = here.within;
}

-- a jump, as steps
pub Walks-jump : {k : Scene} {middle : ℕ} {t : State} (goes : GoesTo k.code middle t) → Walks k middle goes.steps t (at_pc middle t)
Walks-jump goes = record {
  led = goes.led;
  pc = refl;
  same = record {
    injected = record {
      sp = refl;
      base = refl;
      byte = refl;
      tag = refl;
      regions = refl;
      guard = refl;
      choices = refl;
      drawn = refl;
    };
    outside = refl;
  };
}

-- ---- the words of a run

module _ {A : Type 0} {c : Code} {room : A → Room} {Q : A → MeaningState → State → Type 0} where
  pub Proceeds-same : {a : Account} {m n : Run A} {now : MeaningState} {t : State} → m now ≡ n now →
      Proceeds c room Q a n now t → Proceeds c room Q a m now t
  Proceeds-same {a} {m} {n} {now} {t} same goes = record {
    bounded = subst (λ r. Bounded (setting c) a room t Q (outcome_of r)) (sym same) goes.bounded;
  }

  -- a run from another state that comes to the same
  pub Proceeds-from : {a : Account} {m n : Run A} {now before : MeaningState} {t : State} → m now ≡ n before →
      Proceeds c room Q a n before t → Proceeds c room Q a m now t
  Proceeds-from {a} {m} {n} {now} {before} {t} same goes = record {
    bounded = subst (λ r. Bounded (setting c) a room t Q (outcome_of r)) (sym same) goes.bounded;
  }

  pub Proceeds-stuck : {a : Account} {now : MeaningState} {t : State} → Proceeds c room Q a stuck now t
  Proceeds-stuck = record { bounded = unsaid }

  pub Proceeds-some : {B : Type 0} {a : Account} {f : B → Run A} {now : MeaningState} {t : State} (o : Option B) →
      ((b : B) → o ≡ Some b → Proceeds c room Q a (f b) now t) → Proceeds c room Q a (with_some o f) now t
  Proceeds-some None more = Proceeds-stuck
  Proceeds-some (Some b) more = record { bounded = (more b refl).bounded }

  pub Proceeds-choice : {a : Account} {m n : Run A} {now : MeaningState} {t : State} (b : Bool) →
      (b ≡ true → Proceeds c room Q a m now t) → (b ≡ false → Proceeds c room Q a n now t) →
      Proceeds c room Q a (choice b m n) now t
  Proceeds-choice true one other = record { bounded = (one refl).bounded }
  Proceeds-choice false one other = record { bounded = (other refl).bounded }

module _ {A : Type 0} {k : Scene} {room : A → Room} {Q : A → MeaningState → State → Type 0} where
  -- it has come to the end
  pub Proceeds-done : {a : Account} {spare over : ℕ} {now : MeaningState} {t : State} (x : A) → Bounds k a spare over now →
      over + (room x).spare ≤ spare + (room x).over → Q x now t → Proceeds k.code room Q a (gives x) now t
  Proceeds-done x bounds enough is = record {
    bounded = done (record { least = omega (arith, bounds.least); most = omega (arith, bounds.most, enough) }) is;
  }

  -- A part that was counted from where it began, and then what stands on its value. Steps that were made for the next unit of work stay so.
  pub Proceeds-ahead : {B : Type 0} {sub_room : B → Room} {P : B → MeaningState → State → Type 0} {a : Account} {spare ahead : ℕ}
      {m : Run B} {f : B → Run A} {now : MeaningState} {t : State} →
      Proceeds k.code sub_room P (opened (setting k.code) now.work) m now t → ((x : B) → (sub_room x).over ≤ 8) → 96 ≤ k.code.per →
      Bounds k a spare 0 now → IsAhead a ahead now →
      ((x : B) (then : MeaningState) (u : State) (n : ℕ) →
      Bounds k (later n a) (spare + (sub_room x).spare) (sub_room x).over then → IsAhead (later n a) ahead then → P x then u →
      Proceeds k.code room Q (later n a) (f x) then u) →
      Proceeds k.code room Q a (and_then m f) now t
  Proceeds-ahead {B} {sub_room} {P} {a} {spare} {ahead} {m} {f} {now} {t} part few pays bounds before more = record {
    bounded = subst (λ r. Bounded (setting k.code) a room t Q r) (sym (outcome_of-then m f now))
        (by_outcome (outcome_of (m now)) part.bounded.does);
  }
    where
      rest : B → MeaningState → Outcome MeaningState Stop A
      rest x then = outcome_of (f x then)

      looser : IsLooser (opened (setting k.code) now.work) a
      looser = record { least = omega (arith, bounds.least); most = omega (arith, bounds.most) }

      by_outcome : (r : Outcome MeaningState Stop B) → Case (setting k.code) (opened (setting k.code) now.work) sub_room t P r →
          Bounded (setting k.code) a room t Q (followed_by r rest)
      by_outcome (Completes x then) does =
          after does.led
          (more x then does.to does.steps
          (record {
            least = omega (arith, bounds.least, does.least);
            most = omega (arith, bounds.most, does.most);
            within = omega (
              arith,
              bounds.within,
              less_over k.code.per then.work now.work 8 (omega (arith, pays)) (omega (arith, does.most, few x)),
            );
          })
          (record { ahead = omega (arith, before.ahead, does.least) })
          does.there).bounded
      by_outcome (Finishes end then) does = record {
        does = Reaches-changes (record { least = omega (arith, looser.least); most = omega (arith, looser.most) }) (IsWider-same just)
            (λ u over. over) does;
      }
      by_outcome (Lacks then) does = record { does = Reaches-changes looser (IsWider-same just) (λ u same. same) does }
      by_outcome Unsaid does = record { does = tt }

  pub Proceeds-then : {B : Type 0} {sub_room : B → Room} {P : B → MeaningState → State → Type 0} {a : Account} {spare : ℕ}
      {m : Run B} {f : B → Run A} {now : MeaningState} {t : State} →
      Proceeds k.code sub_room P (opened (setting k.code) now.work) m now t → ((x : B) → (sub_room x).over ≤ 8) → 96 ≤ k.code.per →
      Bounds k a spare 0 now →
      ((x : B) (then : MeaningState) (u : State) (n : ℕ) →
      Bounds k (later n a) (spare + (sub_room x).spare) (sub_room x).over then → P x then u →
      Proceeds k.code room Q (later n a) (f x) then u) →
      Proceeds k.code room Q a (and_then m f) now t
  Proceeds-then part few pays bounds more =
      Proceeds-ahead {ahead = 0} part few pays bounds (record { ahead = omega (arith, bounds.least) })
      (λ x then u n limits before ends. more x then u n limits ends)

  module _ {s : State} where
    -- some steps are made, which pay for what is owed
    pub Proceeds-walks : {a : Account} {owes spare : ℕ} {from middle : ℕ} {m : Run A} {now : MeaningState} {t u : State} (n left : ℕ) →
        Walks k middle n t u → Here k s from a owes spare now t → owes ≤ n → n + left ≤ spare →
        (Here k s middle (later n a) 0 left now u → Proceeds k.code room Q (later n a) m now u) →
        Proceeds k.code room Q a m now t
    Proceeds-walks {a} {owes} {spare} {u = u} n left walks on pays fits more = record {
      bounded = after walks.led
          (more (record {
            came = Came-walks walks (λ is. absurd (cc)) on.came;
            least = omega (arith, on.least, pays);
            most = omega (arith, on.most, fits);
            within = on.within;
          })).bounded;
    }

    -- a unit of work is spent, and a step is owed
    pub Proceeds-unit : {a : Account} {spare : ℕ} {at : ℕ} {m : Run A} {now : MeaningState} {t : State} → Here k s at a 0 spare now t →
        (Here k s at a 1 (spare + k.code.per) (spent now) t → Proceeds k.code room Q a m (spent now) t) →
        Proceeds k.code room Q a (unit_then m) now t
    Proceeds-unit {a} {spare} {at} {m} {now} {t} on more = record {
      bounded = does_unit k.code m now (record { least = omega (arith, on.least); most = omega (arith, on.most) })
          on.came.comes.relates.outside.output (λ left is. (more (owing left is)).bounded);
    }
      where
        owing : (left : ℕ) → now.work ≡ suc left → Here k s at a 1 (spare + k.code.per) (spent now) t
        owing left is = record {
          came = Came-spent on.came;
          least = omega (arith, on.least, is, spent_one left now is);
          most = omega (arith, on.most, per_one k.code.per left now is);
          within = omega (arith, on.within, is, spent_one left now is);
        }

    -- an expression, and then what stands on its value
    pub Proceeds-part : {B : Type 0} {a : Account} {spare from middle sub_leaves : ℕ} {sub_alone : Bool} {sub_result : Result B}
        {m : Run B} {f : B → Run A} {now : MeaningState} {t : State} →
        Yields k 0 result sub_alone sub_result from middle sub_leaves m → 96 ≤ k.code.per → Here k s from a 0 spare now t →
        ((x : B) (then : MeaningState) (u : State) (n : ℕ) → Here k s middle (later n a) 0 (spare + sub_leaves) then u →
        sub_result x then (u.register result.0) → Proceeds k.code room Q (later n a) (f x) then u) →
        Proceeds k.code room Q a (and_then m f) now t
    Proceeds-part {now = now} {t} yields pays on more =
        Proceeds-then
        (record { bounded = (yields.goes now t on.within on.came.comes.relates on.came.comes.pc).bounded }) (λ x. omega arith) pays
        (Bounds-here on) (λ x then u n bounds gave. more x then u n (record {
          came = Came-part (omega arith) (λ is. absurd (cc)) gave.came on.came;
          least = omega (arith, bounds.least);
          most = omega (arith, bounds.most);
          within = bounds.within;
        }) gave.result_is)

    -- a jump
    pub Proceeds-jump : {a : Account} {owes spare from middle : ℕ} {m : Run A} {now : MeaningState} {t : State} (left : ℕ)
        (goes : GoesTo k.code middle t) → Here k s from a owes spare now t → owes ≤ 1 → 2 + left ≤ spare →
        (Here k s middle (later goes.steps a) 0 left now (at_pc middle t) →
        Proceeds k.code room Q (later goes.steps a) m now (at_pc middle t)) →
        Proceeds k.code room Q a m now t
    Proceeds-jump left goes on pays fits more =
        Proceeds-walks goes.steps left (Walks-jump goes) on (omega (arith, pays, goes.least)) (omega (arith, goes.most, fits)) more

    -- instructions that compute something, of which there are so many
    pub Proceeds-computes : {a : Account} {owes spare from middle : ℕ} {m : Run A} {now : MeaningState} {t : State} {instrs : List Instr}
        {into : Reg} {spares : ℕ → Type 0} {value : ℕ} (left : ℕ) → HasInstrs k instrs from middle → are_quiet instrs ≡ true →
        (computes : Computes instrs into value spares t) → Suits false result into spares → Here k s from a owes spare now t →
        owes ≤ length instrs → length instrs + left ≤ spare →
        (Here k s middle (later (length instrs) a) 0 left now computes.to →
        Proceeds k.code room Q (later (length instrs) a) m now computes.to) →
        Proceeds k.code room Q a m now t
    Proceeds-computes {instrs = instrs} left has quiet computes suits on pays fits more =
        Proceeds-walks (length instrs) left (Walks-computes has quiet computes suits on.came.comes.relates on.came.comes.pc) on pays fits
        more

    -- a step that has no meaning, and is no access
    pub Proceeds-undefined : {at : ℕ} {a : Account} {owes spare : ℕ} {run : Run A} {now : MeaningState} {t : State} (u : Undefined) →
        run now ≡ Stops (IsUndefined u) now → u.access ≡ None → k.code.Inside t → Here k s at a owes spare now t → owes ≤ 1 →
        1 ≤ spare → Proceeds k.code room Q a run now t
    Proceeds-undefined {a = a} {now = now} {t} u is none inside on pays enough = record {
      bounded = subst (λ r. Bounded (setting k.code) a room t Q (outcome_of r)) (sym is)
          (finishes (record { least = omega (arith, on.least, pays); most = omega (arith, on.most, enough) })
          (record {
            inside = inside;
            output = on.came.comes.relates.outside.output;
            over = subst (λ access. Reached (given_in k) u now t access) (sym none) tt;
          }));
    }

    -- what stands on a condition
    pub Proceeds-truth : {at : ℕ} {a : Account} {owes spare : ℕ} {now : MeaningState} {t : State} {span : Span} {v : Value} {n : ℕ}
        (f : Bool → Run A) → TruthIs k.here span v n now → k.code.Inside t → Here k s at a owes spare now t → owes ≤ 1 → 1 ≤ spare →
        Proceeds k.code room Q a (f (not (nat_eq n 0))) now t →
        Proceeds k.code room Q a (and_then (is_true k.here span v) f) now t
    Proceeds-truth f (known is) inside on pays enough goes = Proceeds-same (ap (λ r. goes_on r f) is) goes
    Proceeds-truth f (unknown u is none) inside on pays enough goes =
        Proceeds-undefined u (ap (λ r. goes_on r f) is) none inside on pays enough
