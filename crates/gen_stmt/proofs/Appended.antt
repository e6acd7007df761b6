-- What is appended in parts.
use Rattle.std.proofs.Common.{◌≡◌, ap, sym, ◌∙◌, subst, ℕ, ◌+◌, ◌*◌, List, [], ◌∷◌}
use Rattle.std.proofs.Common.{◌++◌, length, arith, append_assoc, length-append, append-nil}
use Rattle.std.proofs.Common.{Some, Option, Result, OnOk}
use Rattle.frame_layout.specs.declared.frame.Frame.{Frame}
use Rattle.sym_code.specs.declared.item.SymCode.{SymCode}
use Rattle.sym_code.specs.declared.item.SymItem.TheVariants as item
use Rattle.gen_base.specs.Code.{Code, Appends, in_turn, only}
use Rattle.gen_base.specs.Laws.Appending.{first_appended, appended_as}
use Rattle.gen_stmt.specs.Loops.{Around, Emits, inside, in_loop, back_to, for_code}
use Rattle.gen_stmt.specs.Scopes.{Range, range_of, enter, leave_range, range as range_from}
use Rattle.gen_stmt.specs.Statements.{scope}

turns-append : (cs ds : List Code) (at : ℕ) → in_turn (cs ++ ds) at ≡ in_turn cs at ++ in_turn ds (at + length (in_turn cs at))
turns-append [] ds at = ap (in_turn ds) (let e : at ≡ at + 0 = omega arith in e)
turns-append (c ∷ cs) ds at =
    let here = c at in
    let next = at + length here in
    let rest = in_turn cs next in
    let place : next + length rest ≡ at + length (here ++ rest) = omega (arith, length-append here rest) in
    ap (λ is. here ++ is) (turns-append cs ds next ∙ ap (λ n. rest ++ in_turn ds n) place)
    ∙ sym (append_assoc here rest (in_turn ds (at + length (here ++ rest))))

-- some codes, and then others
pub appended_turns : {T E : Type 0} (r : Result T E) (old mid new : SymCode) (cs ds : List Code) → Appends old (in_turn cs) mid →
    OnOk r (Appends mid (in_turn ds) new) → OnOk r (Appends old (in_turn (cs ++ ds)) new)
appended_turns r old mid new cs ds first rest =
    appended_as r old new (in_turn (in_turn cs ∷ ds)) (in_turn (cs ++ ds)) (sym (turns-append cs ds (length old.items.items)))
    (first_appended r old mid new (in_turn cs) ds first rest)

-- the last one
pub last_appended : {T E : Type 0} (r : Result T E) (old new : SymCode) (c : Code) → OnOk r (Appends old c new) →
    OnOk r (Appends old (in_turn (c ∷ [])) new)
last_appended r old new c = appended_as r old new c (in_turn (c ∷ [])) (sym (append-nil (c (length old.items.items))))

-- ---- scopes

module _ {T E : Type 0} (r : Result T E) (f : Frame) (body : Emits) (around : Around) (range : Range) (old a b new : SymCode) where
  pub scope_appended : (ks : List ℕ) → range_of ks ≡ Some range → Appends old (enter f ks) a → Appends a (body (inside around range)) b →
      OnOk r (Appends b (leave_range f range) new) → OnOk r (Appends old (scope f ks body around) new)
  scope_appended [] known entered through left = absurd cc
  scope_appended (k ∷ ks) known entered through left =
      first_appended r old a new (enter f (k ∷ ks)) (body (inside around here) ∷ leave_range f here ∷ []) entered
      (first_appended r a b new (body (inside around here)) (leave_range f here ∷ [])
      (subst (λ range. Appends a (body (inside around range)) b) (sym is) through)
      (last_appended r b new (leave_range f here) (subst (λ range. OnOk r (Appends b (leave_range f range) new)) (sym is) left)))
    where
      here : Range
      here = range_from k ks

      is : here ≡ range
      is = cc

-- ---- the loop of a `for`

module _ {T E : Type 0} (r : Result T E) (condition : Option Code) (next : Code) (body : Emits) (old a b new : SymCode) where
  abbrev turn : ℕ → List Code
  turn l = only (item.Label (l + 1)) ∷ body (in_loop (l + 2) l) ∷ only (item.Label l) ∷ []

  abbrev test : ℕ → List Code
  test l = next ∷ only (item.Label (l + 3)) ∷ back_to (l + 1) condition ∷ only (item.Label (l + 2)) ∷ []

  pub turns_appended : (l : ℕ) → l ≡ 4 * length old.items.items → Appends old (only (item.Jump (l + 3))) a →
      Appends a (in_turn (turn l)) b → OnOk r (Appends b (in_turn (test l)) new) → OnOk r (Appends old (for_code condition next body) new)
  turns_appended l is first second third =
      subst (λ l. OnOk r (Appends old (in_turn (only (item.Jump (l + 3)) ∷ turn l ++ test l)) new)) is
      (first_appended r old a new (only (item.Jump (l + 3))) (turn l ++ test l) first
      (appended_turns r a b new (turn l) (test l) second third))
