-- The locals of a scope get their blocks where it is entered (this project's own).
use Rattle.std.specs.Prelude.{◌≡◌, ℕ, Bool, true, false, nat_eq, List, [], ◌∷◌, length, slice_get}
use Rattle.std.specs.Prelude.{Option, Some, None, refl, ◌⊎◌}
use Rattle.std.specs.List.{Contains}
use Rattle.std.proofs.Common.{ap, sym, subst, inl, inr, ◌∙◌}
use Rattle.std.proofs.lemmas.Bool.{eqb-true}
use Rattle.a64_code.specs.State.{State}
use Rattle.c_type_base.specs.Sizes.{size}
use Rattle.c_type_base.specs.declared.typed.LocalInfo.{LocalInfo}
use Rattle.c_type_base.specs.declared.typed.TFunction.{TFunction}
use Rattle.block_meaning.specs.declared.kind.Kind.TheVariants.{Local}
use Rattle.block_meaning.specs.Blocks.{Block, fresh}
use Rattle.block_meaning.specs.Linkage.{structs_of, function_named}
use Rattle.block_meaning.specs.Locals.{latest, local_in, local_info, with_local, new_block, new_local, new_locals}
use Rattle.block_meaning.specs.Memory.{bytes_of}
use Rattle.block_meaning.specs.ProgramsInOrder.{InOrder}
use Rattle.block_meaning.specs.Running.{Call, Context, Run, and_then, with_some, State as MeaningState}
use Rattle.code_relation.specs.Calls.{has_tagged}
use Rattle.code_relation.specs.Follows.{Code}
use Rattle.code_relation.specs.Relates.{Relates}
use Rattle.code_relation.specs.Sites.{Given, units_of}
use Rattle.code_relation.specs.Stands.{AreCalls, IsLocal}
use Rattle.code_runs.specs.Bounded.{Account, Room}
use Rattle.stmt_follows.specs.Parts.{Proceeds}
use Rattle.stmt_follows.specs.Laws.Conditions.{and_then-apart}
use Rattle.stmt_follows.specs.Laws.Locals.Basics.{if_false, same_some, others_same}
use Rattle.stmt_follows.specs.Laws.Locals.Born.{with_new, IsBorn, Relates-born}
use Rattle.stmt_follows.specs.Laws.Locals.Lists.{contains_first, contains_more, AreDifferent, length-nothing, get-nothing}
use Rattle.stmt_follows.specs.Laws.Locals.Slots.{slot_at}
use Rattle.stmt_follows.specs.Laws.Proceeding.{Proceeds-same, Proceeds-from, Proceeds-stuck}

-- the context in a scope with some more locals, and that round it
pub record IsInner (here : Context) (ks : List ℕ) (inner : Context) : Type 0 where
  pub program : inner.program ≡ here.program
  pub unit : inner.unit ≡ here.unit
  pub open_calls : inner.open_calls ≡ here.open_calls
  pub others : (j : ℕ) → (Contains ks j → ⊥) → inner.local j ≡ here.local j
  pub only : (j number : ℕ) → inner.local j ≡ Some number → Contains ks j ⊎ (here.local j ≡ Some number)

-- the latest call, of a function without tagged slots
pub record IsSafeCall (g : Given) (here : Context) : Type 0 where
  pub c : Call
  pub cs : List Call
  pub open_is : here.open_calls ≡ c ∷ cs
  pub safe : has_tagged (units_of g) c.function ≡ false

-- ---- one local

-- the function of a call, and the local there
record HasLocal (o : Option TFunction) (k : ℕ) (l : LocalInfo) : Type 0 where
  function : TFunction
  is : o ≡ Some function
  info_is : slice_get function.locals k ≡ Some l

has_local : (o : Option TFunction) (k : ℕ) (l : LocalInfo) → local_in o k ≡ Some l → HasLocal o k l
has_local None k l is = absurd (cc)
has_local (Some f) k l is = record { function = f; is = refl; info_is = is }

abbrev pub block_for : Context → Call → ℕ → LocalInfo → Block
block_for here c k l = fresh (Local c.number k) (bytes_of here l.ty)

born_by : {g : Given} {here : Context} {now : MeaningState} {s : State} → Relates g here now s → InOrder g.program →
    (call : IsSafeCall g here) (k : ℕ) (l : LocalInfo) → local_info here call.c k ≡ Some l → here.local k ≡ None →
    IsBorn g here now (block_for here call.c k l) k
born_by {g} {here} {now} relates order call k l info_is none =
    let program_is = relates.injects.stands.program_is in
    let has : HasLocal (function_named here.program.units call.c.function) k l = has_local _ k l info_is in
    let calls : AreCalls (units_of g) now.calls (call.c ∷ call.cs) =
    subst (λ cs. AreCalls (units_of g) now.calls cs) call.open_is relates.injects.stands.calls in
    let unit_is : here.unit ≡ call.c.function.unit = relates.injects.stands.unit_is call.c (ap latest call.open_is) in
    let local : IsLocal g now (block_for here call.c k l) call.c.number k = record {
      made_by = call.c;
      call_is = calls.0;
      function = has.function;
      function_is = ap (λ p. function_named p.units call.c.function) (sym program_is) ∙ has.is;
      info = l;
      info_is = has.info_is;
      size_is = length-nothing (bytes_of here l.ty) ∙ ap (λ p. size (structs_of p.units here.unit) l.ty) program_is
          ∙ ap (λ unit. size (structs_of (units_of g) unit) l.ty) unit_is;
    } in
    record {
      new = record {
        c = call.c;
        cs = call.cs;
        open_is = call.open_is;
        kind_is = refl;
        at = slot_at g order now (length now.blocks) (block_for here call.c k l) call.c.number k local refl;
        none = none;
        safe = call.safe;
      };
      local = local;
      live = refl;
      whole = refl;
      nothing = λ offset c is. get-nothing (bytes_of here l.ty) offset c is;
    }

-- a local more, and then others
inner_then : (here : Context) (k number : ℕ) (ks : List ℕ) (inner : Context) → IsInner (with_local k number here) ks inner →
    IsInner here (k ∷ ks) inner
inner_then here k number ks inner is = record {
  program = is.program;
  unit = is.unit;
  open_calls = is.open_calls;
  others = λ j none.
      is.others j (λ has. none (contains_more k ks j has))
      ∙ others_same here k number j (λ same. none (subst (λ i. Contains (k ∷ ks) i) (sym same) (contains_first k ks)));
  only = λ j n found. by_rest j n (is.only j n found);
}
  where
    by_rest : (j n : ℕ) → Contains ks j ⊎ ((with_local k number here).local j ≡ Some n) → Contains (k ∷ ks) j ⊎ (here.local j ≡ Some n)
    by_rest j n (inl has) = inl (contains_more k ks j has)
    by_rest j n (inr found) = by_number (nat_eq j k) refl
      where
        by_number : (same : Bool) → nat_eq j k ≡ same → Contains (k ∷ ks) j ⊎ (here.local j ≡ Some n)
        by_number true equal =
            inl (subst (λ i. Contains (k ∷ ks) i) (sym (eqb-true j k equal)) (contains_first k ks))
        by_number false differs = inr (sym (if_false (nat_eq j k) (Some number) (here.local j) differs) ∙ found)

-- ---- all of them

module _ {A : Type 0} {c : Code} {room : A → Room} {Q : A → MeaningState → State → Type 0} {a : Account} {t : State} (f : Context → Run A)
    (order : InOrder c.given.program) where
  by_call : (here : Context) (k : ℕ) (ks : List ℕ) (now : MeaningState) (o : Option Call) → IsSafeCall c.given here →
      latest here.open_calls ≡ o → here.local k ≡ None → Relates c.given here now t →
      ((number : ℕ) (later : MeaningState) → later.work ≡ now.work → Relates c.given (with_local k number here) later t →
      Proceeds c room Q a (and_then (new_locals (with_local k number here) ks) f) later t) →
      Proceeds c room Q a (and_then (with_some o (new_local here k)) (λ inner. and_then (new_locals inner ks) f)) now t
  by_call here k ks now None call is none relates rest = Proceeds-stuck
  by_call here k ks now (Some d) call is none relates rest = by_info (local_info here d k) refl
    where
      same : d ≡ call.c
      same = same_some is (ap latest call.open_is)

      by_info : (o : Option LocalInfo) → local_info here d k ≡ o →
          Proceeds c room Q a (and_then (with_some o (λ l. new_block here k (block_for here d k l)))
          (λ inner. and_then (new_locals inner ks) f)) now t
      by_info None found = Proceeds-stuck
      by_info (Some l) found =
          let born : IsBorn c.given here now (block_for here d k l) k =
          subst (λ (x : Call). IsBorn c.given here now (block_for here x k l) k) (sym same)
          (born_by relates order call k l (ap (λ x. local_info here x k) (sym same) ∙ found) none) in
          Proceeds-from {n = and_then (new_locals (with_local k (length now.blocks) here) ks) f} refl
          (rest (length now.blocks) (with_new (block_for here d k l) now) refl (Relates-born order born relates))

  pub Proceeds-enter : (ks : List ℕ) (here : Context) (now : MeaningState) → Relates c.given here now t → IsSafeCall c.given here →
      AreDifferent ks → ((j : ℕ) → Contains ks j → here.local j ≡ None) →
      ((inner : Context) (later : MeaningState) → IsInner here ks inner → Relates c.given inner later t → later.work ≡ now.work →
      Proceeds c room Q a (f inner) later t) →
      Proceeds c room Q a (and_then (new_locals here ks) f) now t
  Proceeds-enter [] here now relates call different none more =
      Proceeds-same refl (more here now (record {
        program = refl;
        unit = refl;
        open_calls = refl;
        others = λ j outside. refl;
        only = λ j n is. inr is;
      }) relates refl)
  Proceeds-enter (k ∷ ks) here now relates call different none more =
      Proceeds-same (and_then-apart (with_some (latest here.open_calls) (new_local here k)) (λ inner. new_locals inner ks) f now)
      (by_call here k ks now (latest here.open_calls) call refl (none k (contains_first k ks)) relates
      (λ number later work_is next.
      Proceeds-enter ks (with_local k number here) later next
      (record { c = call.c; cs = call.cs; open_is = call.open_is; safe = call.safe }) different.1
      (λ j has. others_same here k number j (different.0 j has) ∙ none j (contains_more k ks j has))
      (λ inner last is relates work_too.
      more inner last (inner_then here k number ks inner is) relates (work_too ∙ work_is))))
