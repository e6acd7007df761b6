-- The calls of functions of the program: their items, whose value comes back in X0 (this project's own).
use Rattle.std.specs.Prelude.{◌≡◌, ℕ, zero, suc, ◌≤◌, false, List, [], ◌∷◌, length, Some, refl}
use Rattle.std.proofs.Common.{arith, ap, sym, subst, ◌∙◌}
use Rattle.c_type_base.specs.declared.expr.Callee.{Callee}
use Rattle.c_type_base.specs.declared.ty.Ty.{Ty}
use Rattle.c_type_base.specs.declared.typed.Typed.{Typed}
use Rattle.a64_code.specs.declared.instr.Reg.{Reg}
use Rattle.a64_code.specs.State.{State}
use Rattle.block_meaning.specs.Expressions.{Site, call_effect}
use Rattle.block_meaning.specs.Locals.{latest}
use Rattle.block_meaning.specs.Meaning.{calls_at}
use Rattle.block_meaning.specs.Running.{Function, Call, Goes as Goes', Run, Stop, gives, one_of, unit_then, State as MeaningState}
use Rattle.block_meaning.specs.declared.value.Value.{Value}
use Rattle.code_relation.specs.Calls.{frame_of}
use Rattle.code_relation.specs.Follows.{setting, Does, HasArguments, Returns, call_room, call_item}
use Rattle.code_relation.specs.Items.{parameters_of, call_from, Calls}
use Rattle.code_relation.specs.Kept.{KeepsAll, KeepsFrom}
use Rattle.code_relation.specs.Laws.Keeps.{KeepsAll-from}
use Rattle.code_relation.specs.Laws.Outcomes.{one_less, spent}
use Rattle.code_relation.specs.Laws.Told.{less_work}
use Rattle.code_relation.specs.Outcomes.{outcome_of}
use Rattle.code_relation.specs.Sites.{units_of}
use Rattle.code_runs.specs.Bounded.{Account, just, sparing, later, Case, Bounded}
use Rattle.code_runs.specs.Laws.Bounded.{IsLooser, IsWider-same, Reaches-changes, opened, after}
use Rattle.code_runs.specs.Outcome.{Outcome, Completes, Finishes, Lacks, Unsaid}
use Rattle.code_follows.specs.Later.{Ran}
use Rattle.code_follows.specs.Parts.{Result, Gave, On, Goes}
use Rattle.code_follows.specs.Scene.{Scene, IsScene, given_in, frame_in}
use Rattle.code_follows.specs.Values.{IsOfType, ValueIs}
use Rattle.code_follows.specs.Laws.Coming.{Came-part, pays-some}
use Rattle.code_follows.specs.Laws.Going.{completes-goes}
use Rattle.code_follows.specs.Laws.Waiting.{never}

-- ---- what is kept

-- a call keeps all temps, and so those before the first
keeps_from : (units : List Typed) (first : ℕ) (s t : State) (f : Function) (cs : List Call) (c : Call) → latest cs ≡ Some c →
    c.function ≡ f → first ≤ (frame_of units f).temps → KeepsAll units s t cs → KeepsFrom units first s t cs
keeps_from units first s t f [] c is of within keeps = absurd (cc)
keeps_from units first s t f (d ∷ ds) c is of within keeps =
    let same : d.function ≡ f = ap (λ (o : Call). o.function) (let e : d ≡ c = cc in e) ∙ of in
    KeepsAll-from units first s t d ds (subst (λ g. first ≤ (frame_of units g).temps) (sym same) within) keeps

-- what runs behind a unit of work
ran_one : {A : Type 0} (work : ℕ) (m : Run A) (now last : MeaningState) (a : A) → one_of work m now ≡ Goes' a last →
    m (record now { work = one_less work }) ≡ Goes' a last
ran_one zero m now last a is = absurd (cc)
ran_one (suc work) m now last a is = is

pub Ran-unit : {A : Type 0} (m : Run A) (now last : MeaningState) (a : A) → Ran (unit_then m) now a last → Ran m (spent now) a last
Ran-unit m now last a ran = record { is = ran_one now.work m now last a ran.is }

module _ {k : Scene} {first : ℕ} {reg : Reg} {result : Result Value} {s : State} {to leaves : ℕ} (scene : IsScene k) where
  -- What has come back from a call, with its value in X0. It has taken a step more for each argument.
  pub Goes-returned : {a : Account} {spare from middle : ℕ} {now : MeaningState} {t : State} (m : Run Value) (vs : List Value) (ty : Ty) →
      first ≤ (frame_in k).temps → length vs ≤ 8 → length vs ≤ spare → On k first reg false s from a 0 spare now t →
      Bounded (setting k.code) (later 0 (opened (setting k.code) now.work)) (λ v. call_room vs) t (Returns (given_in k) middle k.here t)
      (outcome_of (m now)) →
      ((v : Value) (last : MeaningState) → Ran m now v last → IsOfType ty v) →
      ((v : Value) (then : MeaningState) (u : State) (c : Account) → On k first reg false s middle c 0 8 then u →
      ValueIs (given_in k) ty v then (u.register 0) → Goes k first reg false result s to leaves c (gives v) then u) →
      Goes k first reg false result s to leaves a m now t
  Goes-returned {a} {spare} {from} {middle} {now} {t} m vs ty within eight enough on called of_type more =
      record { bounded = by_outcome (outcome_of (m now)) refl called.does }
    where
      looser : IsLooser (later 0 (opened (setting k.code) now.work)) a
      looser = record { least = omega (arith, on.least); most = omega (arith, on.most) }

      by_outcome : (r : Outcome MeaningState Stop Value) → outcome_of (m now) ≡ r →
          Case (setting k.code) (later 0 (opened (setting k.code) now.work)) (λ v. call_room vs) t
          (Returns (given_in k) middle k.here t) r →
          Bounded (setting k.code) a (λ v. sparing leaves) t (Gave k first reg false result s to) r
      by_outcome (Completes v then) is does =
          let back = does.there in
          after does.led
          (more v then does.to (later does.steps a)
          (record {
            came = Came-part {sub_first = first} {sub_reg = reg} {sub_alone = false} (omega arith) never (record {
              comes = record {
                relates = back.relates;
                pc = back.pc;
                kept = keeps_from (units_of (given_in k)) first t does.to k.function k.here.open_calls scene.inside.0 scene.inside.1
                    scene.inside.2 within back.kept;
              };
              registers = λ alone. never alone;
            }) on.came;
            least = omega (arith, on.least, does.least);
            most = omega (arith, on.most, does.most, enough);
            within = omega (
              arith,
              on.within,
              less_work k.code.per then.work now.work (pays-some scene) (omega (arith, does.most, eight)),
            );
          })
          (record { of = of_type v then (record { is = completes-goes (m now) is }); holds = back.value })).bounded
      by_outcome (Finishes end then) is does = record {
        does = Reaches-changes (record { least = omega (arith, looser.least); most = omega (arith, looser.most) }) (IsWider-same just)
            (λ u over. over) does;
      }
      by_outcome (Lacks then) is does = record { does = Reaches-changes looser (IsWider-same just) (λ u same. same) does }
      by_outcome Unsaid is does = record { does = tt }

-- what the item does, from where it stands
pub call_does : {k : Scene} {first : ℕ} {reg : Reg} {s : State} {spare from middle : ℕ} {a : Account} {now : MeaningState} {t : State} →
    IsScene k → (f : Callee) (around : Site) (vs : List Value) →
    Calls k.code k.function from middle f → around.calls ≡ calls_at k.bound → On k first reg false s from a 0 spare now t →
    HasArguments (given_in k) now t 0 (parameters_of (given_in k) k.function f) vs →
    Bounded (setting k.code) (later 0 (opened (setting k.code) now.work)) (λ v. call_room vs) t (Returns (given_in k) middle k.here t)
    (outcome_of (unit_then (call_effect (record around { here = k.here }) f vs) now))
call_does {k} {now = now} {t} scene f around vs calls of_bound on has = bounded_of
    ((calls.follows k.bound around vs of_bound).does k.here now t on.within on.came.comes.relates
    (scene.inside, on.came.comes.pc, has))
  where
    bounded_of : {from middle : ℕ} →
        Does k.code (call_item (given_in k) (call_from (given_in k) k.function f around vs) (record {
          function = k.function;
          from = from;
          to = middle;
        })) k.here now t → Bounded (setting k.code) (later 0 (opened (setting k.code) now.work)) (λ v. call_room vs) t
        (Returns (given_in k) middle k.here t) (outcome_of (unit_then (call_effect (record around { here = k.here }) f vs) now))
    bounded_of does = does.bounded
