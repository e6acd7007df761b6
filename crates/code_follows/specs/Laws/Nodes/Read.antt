-- The code that reads an object does what it means: a scalar is loaded, from SP or through a pointer, and a struct is where it stands
-- (ISO C11 6.3.2.1 paragraph 2).
use Rattle.std.specs.Prelude.{◌≡◌, ℕ, zero, suc, ◌+◌, ◌<◌, Bool, true, false, ◌||◌, [], ◌∷◌, Option, Some, None, refl}
use Rattle.std.proofs.Common.{arith, ap, sym, subst, inl, inr, ◌∙◌}
use Rattle.std.proofs.lemmas.Bool.{cases_Bool}
use Rattle.c_ast.specs.declared.token.Span.{Span}
use Rattle.c_type_base.specs.Types.{TyLayer, is_scalar, is_struct, is_there, struct_of_level}
use Rattle.c_type_base.specs.declared.expr.TExpr.{TExpr}
use Rattle.c_type_base.specs.declared.expr.TNode.TheOpen.{TNode-F}
use Rattle.c_type_base.specs.declared.ty.Ty.{Ty, out-Ty}
use Rattle.c_type_base.specs.declared.ty.Ty.TheOpen.{Ty-F}
use Rattle.a64_code.specs.declared.instr.Reg.{Reg}
use Rattle.a64_code.specs.State.{State}
use Rattle.block_meaning.specs.Expressions.{starts, start_of}
use Rattle.block_meaning.specs.Memory.{object, read, read_scalar}
use Rattle.block_meaning.specs.Running.{Run, gives, and_then, goes_on, unit_then, unit_gives, one_of, with_some}
use Rattle.block_meaning.specs.Running.{State as MeaningState}
use Rattle.block_meaning.specs.declared.value.Pointer.{Pointer}
use Rattle.block_meaning.specs.declared.value.Value.{Value}
use Rattle.block_meaning.specs.declared.value.Value.TheVariants.{Struct}
use Rattle.code_relation.specs.Numbers.{IsNumber}
use Rattle.code_relation.specs.Sites.{Given, units_of}
use Rattle.code_runs.specs.Bounded.{Account, later}
use Rattle.gen_base.specs.Accesses.{OnStack, Behind, load_scalar}
use Rattle.gen_base.specs.Code.{Code as Items, plain, in_turn}
use Rattle.gen_expr.specs.Coded.{Coded, Emits, read_slot}
use Rattle.gen_expr.specs.Coded as coded
use Rattle.code_follows.specs.Aligned.{AlignedSlots}
use Rattle.code_follows.specs.Leaves.{value_leaves}
use Rattle.code_follows.specs.Parts.{Result, pointer_leaves, Part, Goes, On, PlacePart, PlaceFollows, ValueNode, SlotRun, names, too_deep}
use Rattle.code_follows.specs.Parts.{owed}
use Rattle.code_follows.specs.Scene.{Scene, IsScene, Lies, given_in, structs_in, frame_in}
use Rattle.code_follows.specs.Values.{IsOfLevel, ValueIs}
use Rattle.code_follows.specs.Laws.Coming.{pays, pays-some}
use Rattle.code_follows.specs.Laws.Going.{Goes-same, Goes-stuck, Goes-done, Goes-unit, Goes-some, Goes-part, Part-by}
use Rattle.code_follows.specs.Laws.Here.{Part-same}
use Rattle.code_follows.specs.Laws.Judging.{and_then-then}
use Rattle.code_follows.specs.Laws.Layers.{coded-ty}
use Rattle.code_follows.specs.Laws.Lying.{Lies-turn, Lies-none, HasInstrs, Lies-plain}
use Rattle.code_follows.specs.Laws.ScalarLoads.{loads_slot, loads_through}
use Rattle.code_follows.specs.Laws.Paying.{IsNumber-spent}
use Rattle.code_follows.specs.Laws.SlotScalars.{slot_is}

-- ---- runs

-- the name of a local, and then something
starts-then : {A : Type 0} (o : Option ℕ) (f : Pointer → Run A) (now : MeaningState) →
    and_then (starts o) f now ≡ unit_then (with_some o (λ number. f (start_of number))) now
starts-then {A} o f now = by_work now.work o
  where
    by_work : (work : ℕ) (o : Option ℕ) → goes_on (one_of work (with_some o (λ number. gives (start_of number))) now) f
        ≡ one_of work (with_some o (λ number. f (start_of number))) now
    by_work zero o = refl
    by_work (suc left) None = refl
    by_work (suc left) (Some number) = refl

unit-then : {A : Type 0} (p : Pointer) (f : Pointer → Run A) (now : MeaningState) →
    and_then (unit_gives p) f now ≡ unit_then (f p) now
unit-then {A} p f now = by_work now.work
  where
    by_work : (work : ℕ) → goes_on (one_of work (gives p) now) f ≡ one_of work (f p) now
    by_work zero = refl
    by_work (suc left) = refl

struct_value : {g : Given} {now : MeaningState} (t : Ty) (p : Pointer) (n : ℕ) → is_struct t ≡ true → IsNumber g now p n →
    ValueIs g t (Struct p) now n
struct_value t p n is number = record { of = by_level (out-Ty t) is; holds = number }
  where
    by_level : (l : TyLayer) → is_there (struct_of_level l) ≡ true → IsOfLevel l (Struct p)
    by_level (Ty-F.Struct i) is = tt
    by_level _ is = absurd (cc)

-- ---- structs

struct_part : {k : Scene} {code : Coded} {needs : ℕ} {t : Ty} {run : Run Pointer} → IsScene k → code.ty ≡ t → is_struct t ≡ true →
    PlacePart k code needs t run → (span : Span) →
    Part k (coded.read code) needs value_leaves code.alone (ValueIs (given_in k) t) (and_then run (λ p. read k.here span (object t p)))
struct_part {k} {code} {t = t} {run} scene of_type is place span = Part-by (λ first reg from to free lies a now s on.
    let code_is : coded.read code first reg ≡ code.place first reg = rw (of_type, is) refl in
    let there : Lies k (code.place first reg) from to = subst (λ (c : Items). Lies k c from to) code_is lies in
    let run_is : and_then run (λ p. read k.here span (object t p)) now ≡ and_then run (λ p. gives (Struct p)) now = rw is refl in
    Goes-same run_is (Goes-part (place.place.yields first reg from to free there) (omega arith) (λ alone. (refl, alone))
    (pays-some scene) on (λ p then u n came gave.
    Goes-done (Struct p) came (omega arith) (struct_value t p (u.register reg.0) is gave.result_is.is))))

-- ---- scalars

slot_part : {k : Scene} {code : Coded} {needs : ℕ} {t : Ty} {run : Run Pointer} → IsScene k → is_scalar t ≡ true →
    PlacePart k code needs t run → (start : ℕ) → code.slot ≡ Some start → (span : Span) →
    Part k (λ m r. plain (load_scalar t (OnStack start) r ∷ [])) needs value_leaves code.alone (ValueIs (given_in k) t)
    (and_then run (λ p. read_scalar k.here span (object t p)))
slot_part {k} {code} {t = t} {run} scene scalar place start is span = Part-by (λ first reg from to free lies a now s on.
    by_slot first reg from to (omega (arith, free.high)) (Lies-plain (load_scalar t (OnStack start) reg ∷ []) lies) a now s on
    (place.slot start is now))
  where
    f : Pointer → Run Value
    f p = read_scalar k.here span (object t p)

    by_slot : (first : ℕ) (reg : Reg) (from to : ℕ) → reg.0 < 28 → HasInstrs k (load_scalar t (OnStack start) reg ∷ []) from to →
        (a : Account) (now : MeaningState) (s : State) → On k first reg code.alone s from a 0 0 now s → SlotRun k t start run now →
        Goes k first reg code.alone (ValueIs (given_in k) t) s to value_leaves a (and_then run f) now s
    by_slot first reg from to low has a now s on (too_deep stuck_is) = Goes-same (ap (λ r. goes_on r f) stuck_is) Goes-stuck
    by_slot first reg from to low has a now s on (names local info there of_type reach run_is) =
        Goes-same (ap (λ r. goes_on r f) run_is ∙ starts-then (k.here.local local) f now)
        (Goes-unit on (λ owing. Goes-some (k.here.local local) (λ number named.
        loads_slot scene t scalar span low owing (omega arith) (omega (arith, pays scene)) start number has
        (slot_is scene owing.came.comes.relates t start local number info there of_type reach named))))

pointer_part : {k : Scene} {code : Coded} {needs : ℕ} {t : Ty} {run : Run Pointer} → IsScene k → is_scalar t ≡ true →
    AlignedSlots (units_of (given_in k)) → PlacePart k code needs t run → (span : Span) →
    Part k (λ m r. in_turn (code.pointer m r ∷ plain (load_scalar t (Behind r) r ∷ []) ∷ [])) needs value_leaves code.alone
    (ValueIs (given_in k) t) (and_then run (λ p. read_scalar k.here span (object t p)))
pointer_part {k} {code} {t = t} {run} scene scalar slots place span = Part-by (λ first reg from to free lies a now s on.
    let parts = Lies-turn (code.pointer first reg) (plain (load_scalar t (Behind reg) reg ∷ []) ∷ []) lies in
    let rest = Lies-turn (plain (load_scalar t (Behind reg) reg ∷ [])) [] parts.back in
    let has = Lies-plain (load_scalar t (Behind reg) reg ∷ []) rest.front in
    Goes-same (ap (λ r. goes_on r f) (place.pointer.run_is now) ∙ and_then-then place.pointer.first (owed place.pointer.owes) f now)
    (Goes-part (place.pointer.part.yields first reg from parts.middle free parts.front) (omega arith) (λ alone. (refl, alone))
    (pays-some scene) on (λ p then u n came gave.
    by_owed place.pointer.owes first reg parts.middle to (omega (arith, free.high))
    (subst (λ (x : ℕ). HasInstrs k (load_scalar t (Behind reg) reg ∷ []) parts.middle x) (Lies-none rest.back) has) (later n a) s then u p
    came gave.result_is.is)))
  where
    f : Pointer → Run Value
    f p = read_scalar k.here span (object t p)

    by_owed : (owes : Bool) (first : ℕ) (reg : Reg) (from to : ℕ) → reg.0 < 28 →
        HasInstrs k (load_scalar t (Behind reg) reg ∷ []) from to → (a : Account) (s : State) (now : MeaningState) (u : State)
        (p : Pointer) → On k first reg code.alone s from a 0 (0 + pointer_leaves owes) now u → IsNumber (given_in k) now p
        (u.register reg.0) →
        Goes k first reg code.alone (ValueIs (given_in k) t) s to value_leaves a (and_then (owed owes p) f) now u
    by_owed false first reg from to low has a s now u p on number =
        loads_through scene t scalar span low on (omega arith) (omega arith) slots p has number
    by_owed true first reg from to low has a s now u p on number =
        Goes-same (unit-then p f now) (Goes-unit on (λ owing.
        loads_through scene t scalar span low owing (omega arith) (omega (arith, pays scene)) slots p has (IsNumber-spent number)))

-- ---- the node

-- the same code
Part-code : {A : Type 0} {k : Scene} {emits other : Emits} {needs leaves : ℕ} {alone : Bool} {result : Result A} {run : Run A} →
    ((first : ℕ) (reg : Reg) → emits first reg ≡ other first reg) → Part k other needs leaves alone result run →
    Part k emits needs leaves alone result run
Part-code {k = k} same part = record {
  yields = λ first reg from to free lies.
      part.yields first reg from to free (subst (λ (c : Items). Lies k c from to) (same first reg) lies);
}

either_by : (scalar struct : Bool) → struct ≡ false → (scalar || struct) ≡ true → scalar ≡ true
either_by true struct none either = refl
either_by false struct none either = absurd (let both : true ≡ false = sym either ∙ none in cc)

scalar_part : {k : Scene} {code : Coded} {needs : ℕ} {t : Ty} {run : Run Pointer} → IsScene k → is_scalar t ≡ true → is_struct t ≡ false →
    AlignedSlots (units_of (given_in k)) → code.ty ≡ t → PlacePart k code needs t run → (span : Span) →
    Part k (coded.read code) needs value_leaves code.alone (ValueIs (given_in k) t) (and_then run (λ p. read k.here span (object t p)))
scalar_part {k} {code} {needs} {t} {run} scene scalar none slots of_type place span =
    Part-same (λ now s relates. run_is now) (by_slot code.slot refl)
  where
    run_is : (now : MeaningState) → and_then run (λ p. read k.here span (object t p)) now
        ≡ and_then run (λ p. read_scalar k.here span (object t p)) now
    run_is now = rw none refl

    code_is : (o : Option ℕ) → code.slot ≡ o → (first : ℕ) (reg : Reg) → coded.read code first reg ≡ read_slot code o first reg
    code_is o slot first reg = rw (of_type, none, slot) refl

    by_slot : (o : Option ℕ) → code.slot ≡ o → Part k (coded.read code) needs value_leaves code.alone (ValueIs (given_in k) t)
        (and_then run (λ p. read_scalar k.here span (object t p)))
    by_slot (Some start) slot =
        Part-code (λ first reg. code_is (Some start) slot first reg ∙ (rw of_type refl)) (slot_part scene scalar place start slot span)
    by_slot None slot =
        Part-code (λ first reg. code_is None slot first reg ∙ (rw of_type refl)) (pointer_part scene scalar slots place span)

pub read_follows : (k : Scene) → IsScene k → AlignedSlots (units_of (given_in k)) → (depth : ℕ) (e : TExpr) → PlaceFollows k depth e →
    (is_scalar e.ty || is_struct e.ty) ≡ true → ValueNode k depth e.ty (TNode-F.Read e)
read_follows k scene slots depth e follows either = record {
  at = λ span around. record {
    part = elim (cases_Bool (is_struct e.ty)) [
      | inl is ↦ struct_part scene (coded-ty (structs_in k) (frame_in k) e) is follows.part e.span
      | inr none ↦
          scalar_part scene (either_by (is_scalar e.ty) (is_struct e.ty) none either) none slots
          (coded-ty (structs_in k) (frame_in k) e) follows.part e.span
    ];
  };
}
