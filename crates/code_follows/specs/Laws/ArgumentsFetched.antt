-- The arguments of a call come from their temps into X0 and the registers behind it (this project's own).
use Rattle.std.specs.Prelude.{◌≡◌, ℕ, zero, suc, ◌+◌, ◌*◌, ◌%◌, ◌<◌, ◌≤◌, true, false, List, [], ◌∷◌, ◌++◌, length, map, Some, refl}
use Rattle.std.proofs.Common.{arith, ap, sym, subst, ◌∙◌}
use Rattle.std.proofs.lemmas.Bool.{lt-ltb}
use Rattle.mt_base.specs.Memory.{load}
use Rattle.c_type_base.specs.Types.{TyLayer}
use Rattle.c_type_base.specs.declared.expr.TExpr.{TExpr}
use Rattle.c_type_base.specs.declared.ty.Ty.{Ty, out-Ty}
use Rattle.c_type_base.specs.declared.ty.Ty.TheOpen.{Ty-F}
use Rattle.a64_code.specs.declared.instr.Instr.{Instr}
use Rattle.a64_code.specs.declared.instr.Instr.TheVariants.{Ldr}
use Rattle.a64_code.specs.declared.instr.Reg.{Reg}
use Rattle.a64_code.specs.State.{State}
use Rattle.a64_laws.specs.Forms.{stack_pointer}
use Rattle.a64_laws.specs.Runs.{instr_at}
use Rattle.block_meaning.specs.ExpressionsInOrder as order
use Rattle.block_meaning.specs.ExpressionsInOrder.{Scope, Arguments}
use Rattle.block_meaning.specs.Laws.Progress.Fits.{FitsLevel, Fits}
use Rattle.block_meaning.specs.Running.{Run, State as MeaningState}
use Rattle.block_meaning.specs.declared.value.Value.{Value}
use Rattle.block_meaning.specs.declared.value.Value.TheVariants.{Number, Address, Struct, NoValue}
use Rattle.code_relation.specs.Calls.{lowest}
use Rattle.code_relation.specs.Follows.{HasArguments}
use Rattle.code_relation.specs.Items.{HasInstr}
use Rattle.code_relation.specs.Laws.Lists.{get_within}
use Rattle.code_relation.specs.Numbers.{Holds}
use Rattle.code_relation.specs.Sites.{Given}
use Rattle.code_runs.specs.Bounded.{Account}
use Rattle.gen_base.specs.Registers.{argument}
use Rattle.gen_base.specs.Waiting.{fetch}
use Rattle.gen_expr.specs.Nodes.{fetch_arguments}
use Rattle.gen_laws.specs.Computes.{Computes, all}
use Rattle.code_follows.specs.Parts.{Result, On, Goes, coded_in}
use Rattle.code_follows.specs.Scene.{Scene, given_in, frame_in}
use Rattle.code_follows.specs.Values.{IsOfLevel, ValueIs}
use Rattle.code_follows.specs.Waits.{HasTemp, IsTemp, WaitingLaws}
use Rattle.code_follows.specs.Laws.ArgumentsKept.{AreKept}
use Rattle.code_follows.specs.Laws.Computing.{Suits-other}
use Rattle.code_follows.specs.Laws.Going.{Goes-computes, On-at}
use Rattle.code_follows.specs.Laws.Lying.{HasInstrs}
use Rattle.code_follows.specs.Laws.Waiting.{On-spare}

-- ---- values fit the types of parameters

fits_level : (g : Given) (now : MeaningState) (l : TyLayer) (v : Value) (n : ℕ) → IsOfLevel l v → Holds g now v n →
    FitsLevel (length now.blocks) l v
fits_level g now (Ty-F.Int t) (Number m) n of holds = tt
fits_level g now (Ty-F.Int t) _ n of holds = absurd of
fits_level g now (Ty-F.Pointer t) (Address p) n of holds = get_within now.blocks p.block holds.block holds.is
fits_level g now (Ty-F.Pointer t) _ n of holds = absurd of
fits_level g now (Ty-F.Struct number) (Struct p) n of holds = get_within now.blocks p.block holds.block holds.is
fits_level g now (Ty-F.Struct number) _ n of holds = absurd of
fits_level g now Ty-F.Void NoValue n of holds = tt
fits_level g now Ty-F.Void _ n of holds = absurd of
fits_level g now (Ty-F.Array t m) v n of holds = absurd of

pub ValueIs-fits : {g : Given} {now : MeaningState} (t : Ty) (v : Value) (n : ℕ) → ValueIs g t v now n → Fits t (length now.blocks) v
ValueIs-fits {g} {now} t v n is = fits_level g now (out-Ty t) v n is.of is.holds

abbrev pub type_of : TExpr → Ty
type_of e = e.ty

pub Arguments-types : {scope : Scope} (es : List TExpr) (ts : List Ty) → Arguments scope es ts → map type_of es ≡ ts
Arguments-types es ts order.no_argument = refl
Arguments-types es ts (order.argument {e} {es = more} {ts = types} value rest) = ap (λ us. e.ty ∷ us) (Arguments-types more types rest)

-- ---- what is kept stays where memory is the same

HasTemp-bytes : {k : Scene} {t value : ℕ} {s u : State} → u.byte ≡ s.byte → HasTemp k t value s → HasTemp k t value u
HasTemp-bytes {t = t} same has =
    record { is = λ c open_is. ap (λ byte. load 8 byte (lowest c + (24 + 8 * t))) same ∙ has.is c open_is }

AreKept-bytes : (k : Scene) (now : MeaningState) (s u : State) (t : ℕ) (es : List TExpr) (vs : List Value) → u.byte ≡ s.byte →
    AreKept k t now s es vs → AreKept k t now u es vs
AreKept-bytes k now s u t [] [] same kept = tt
AreKept-bytes k now s u t [] (v ∷ vs) same kept = absurd kept
AreKept-bytes k now s u t (e ∷ es) [] same kept = absurd kept
AreKept-bytes k now s u t (e ∷ es) (v ∷ vs) same kept =
    (kept.0, HasTemp-bytes same kept.1, kept.2, AreKept-bytes k now s u (suc t) es vs same kept.3)

-- ---- the list, one after the other

abbrev fetches_near : ℕ → Reg → Instr
fetches_near t r = Ldr true (3 + t) stack_pointer r

fetch_is : (t : ℕ) (r : Reg) → t ≤ 4092 → fetch t r ≡ fetches_near t r ∷ []
fetch_is t r near = rw (lt-ltb (3 + t) 4096 (let e : 3 + t < 4096 = omega (arith, near) in e)) refl

-- the first, and the others
record HasBoth (k : Scene) (first : Instr) (rest : List Instr) (from to : ℕ) : Type 0 where
  front : HasInstrs k (first ∷ []) from (from + 4)
  back : HasInstrs k rest (from + 4) to

has_both : {k : Scene} {from to : ℕ} (x : Instr) (xs : List Instr) → HasInstrs k (x ∷ xs) from to → HasBoth k x xs from to
has_both {k} {from} {to} x xs has = record {
  front = record { each = first_of; to_is = omega arith };
  back = record {
    each = λ j instr is. subst (λ (at : ℕ). HasInstr k.code at instr) (let e : from + 4 * suc j ≡ from + 4 + 4 * j = omega arith in e)
        (has.each (suc j) instr is);
    to_is = omega (arith, has.to_is);
  };
}
  where
    first_of : (j : ℕ) (instr : Instr) → instr_at (x ∷ []) j ≡ Some instr → HasInstr k.code (from + 4 * j) instr
    first_of zero instr is = has.each 0 instr is
    first_of (suc j) instr is = absurd (cc)

argument_is : (j : ℕ) → j < 8 → (argument j).0 ≡ j
argument_is j below = let e : j % 8 ≡ j = omega (arith, below) in e

-- as many temps as wait from one on, and registers from one on
pub record CanFetch (k : Scene) (t j n : ℕ) : Type 0 where
  pub within : t + n ≤ (frame_in k).temps
  pub near : t + n ≤ 4093
  pub registers : j + n ≤ 8

module _ {C : Type 0} {k : Scene} {first : ℕ} {reg : Reg} {result : Result C} {s : State} {to leaves : ℕ} (waits : WaitingLaws k) where
  -- a step each
  pub Goes-fetches : (es : List TExpr) (vs : List Value) (t j left : ℕ) {a : Account} {spare from middle : ℕ} {m : Run C}
      {now : MeaningState} {u : State} → CanFetch k t j (length es) →
      HasInstrs k (fetch_arguments t j (map (coded_in k) es)) from middle → On k first reg false s from a 0 spare now u →
      AreKept k t now u es vs → length es + left ≤ spare →
      ((w : State) (c : Account) → On k first reg false s middle c 0 left now w →
      HasArguments (given_in k) now w j (map type_of es) vs → ((r : ℕ) → r < j → w.register r ≡ u.register r) →
      Goes k first reg false result s to leaves c m now w) →
      Goes k first reg false result s to leaves a m now u
  Goes-fetches [] [] t j left {a} {u = u} can has on kept fits more =
      more u a (On-at (let e : _ ≡ _ = omega (arith, has.to_is) in e) (On-spare left (omega (arith, fits)) on)) tt (λ r less. refl)
  Goes-fetches [] (v ∷ vs) t j left can has on kept fits more = absurd kept
  Goes-fetches (e ∷ es) [] t j left can has on kept fits more = absurd kept
  Goes-fetches (e ∷ es) (v ∷ vs) t j left {a} {spare} {from} {middle} {m} {now} {u} can has on kept fits more =
      let into = argument j in
      let rest = fetch_arguments (suc t) (suc j) (map (coded_in k) es) in
      let near : t ≤ 4092 = omega (arith, can.near) in
      let into_is : into.0 ≡ j = argument_is j (omega (arith, can.registers)) in
      let low : into.0 < 28 = omega (arith, into_is, can.registers) in
      let parts = has_both (fetches_near t into) rest (subst (λ is. HasInstrs k (is ++ rest) from middle) (fetch_is t into near) has) in
      let temp : IsTemp k t = record { within = omega (arith, can.within); near = near } in
      let fetched : Computes (fetches_near t into ∷ []) into kept.0 all u =
      subst (λ is. Computes is into kept.0 all u) (fetch_is t into near)
      (waits.fetches t kept.0 into from (from + 4) now u temp low
      (subst (λ is. HasInstrs k is from (from + 4)) (sym (fetch_is t into near)) parts.front) on.came.comes.relates on.came.comes.pc
      kept.1) in
      Goes-computes (length es + left) parts.front refl fetched (Suits-other reg into all low tt) on (omega arith) (omega (arith, fits))
      (λ done.
      Goes-fetches es vs (suc t) (suc j) left
      (record { within = omega (arith, can.within); near = omega (arith, can.near); registers = omega (arith, can.registers) })
      parts.back done (AreKept-bytes k now u fetched.to (suc t) es vs fetched.same.byte kept.3) (omega arith)
      (λ w c there arguments others. more w c there (
        ValueIs-fits e.ty v kept.0 kept.2,
        subst (λ n. Holds (given_in k) now v n)
            (sym (others j (omega arith) ∙ ap (λ r. fetched.to.register r) (sym into_is) ∙ fetched.holds)) kept.2.holds,
        arguments,
      )
      (λ r less. others r (omega (arith, less)) ∙ fetched.registers r (λ same. omega (arith, same, into_is, less)) tt)))
