-- The fault that is found one by one is the first of all.
use Rattle.std.proofs.Common.{◌≡◌, refl, sym, subst, suc, zero, Bool, true, false, List, [], ◌∷◌, Some, None, All, arith}
use Rattle.std.specs.Prelude.{nat_eq, ltb, if◌then◌else◌}
use Rattle.std.specs.List.{Contains}
use Rattle.std.proofs.lemmas.List.Elements.{All-cons}
use Rattle.std.proofs.lemmas.Bool.Decides.{nat_tests}
use Rattle.c_type_expr.specs.declared.fault.Fault.{Fault}
use Rattle.c_type_expr.specs.Faults.{NoLater, ends_first, starts_last, smaller, IsFirst}
use Rattle.c_type_expr.specs.Least.{comes_before, earlier, first_with}
use Rattle.c_type_expr.specs.Laws.FirstLaws.{no_later-itself, no_later-through}

-- the one or the other, by a test
abbrev Before : Fault → Fault → Bool → Type 0
Before f g true = NoLater f g
Before f g false = NoLater g f

-- in the order of ends, starts and numbers
by_number : (f g : Fault) → f.span.end ≡ g.span.end → f.span.start ≡ g.span.start → (b : Bool) → ltb f.number g.number ≡ b →
    Before f g b
by_number f g ends starts true is = smaller ends starts (grind (arith, nat_tests))
by_number f g ends starts false is = smaller (sym ends) (sym starts) (grind (arith, nat_tests))

by_start : (f g : Fault) → f.span.end ≡ g.span.end → (same : Bool) → nat_eq f.span.start g.span.start ≡ same → (b : Bool) →
    (if same then ltb f.number g.number else ltb g.span.start f.span.start) ≡ b → Before f g b
by_start f g ends true same b is = by_number f g ends (grind (arith, nat_tests)) b is
by_start f g ends false same true is = starts_last ends (grind (arith, nat_tests))
by_start f g ends false same false is = starts_last (sym ends) (grind (arith, nat_tests))

by_end : (f g : Fault) → (same : Bool) → nat_eq f.span.end g.span.end ≡ same → (b : Bool) →
    (if same then (if nat_eq f.span.start g.span.start then ltb f.number g.number else ltb g.span.start f.span.start)
    else ltb f.span.end g.span.end) ≡ b → Before f g b
by_end f g true same b is = by_start f g (grind (arith, nat_tests)) (nat_eq f.span.start g.span.start) refl b is
by_end f g false same true is = ends_first (grind (arith, nat_tests))
by_end f g false same false is = ends_first (grind (arith, nat_tests))

before : (f g : Fault) (b : Bool) → comes_before f g ≡ b → Before f g b
before f g b is = by_end f g (nat_eq f.span.end g.span.end) refl b is

skip : (f g h : Fault) (gs : List Fault) → Contains (f ∷ gs) h → Contains (f ∷ g ∷ gs) h
skip f g h gs (zero, below, is) = (0, omega arith, is)
skip f g h gs (suc k, below, is) = (suc (suc k), omega (arith, below), is)

behind_head : (f g : Fault) (gs : List Fault) → Contains gs f → Contains (g ∷ gs) f
behind_head f g gs c = (suc c.0, omega (arith, c.1), c.2)

rest_later : (f h : Fault) (gs : List Fault) → All (NoLater h) (f ∷ gs) → All (NoLater h) gs
rest_later f h gs all = λ k d below. all (suc k) d (omega (arith, below))

head_later : (f h : Fault) (gs : List Fault) → All (NoLater h) (f ∷ gs) → NoLater h f
head_later f h gs all = all 0 h (omega arith)

one_more : (f g h : Fault) (gs : List Fault) (b : Bool) → comes_before g f ≡ b → IsFirst ((if b then g else f) ∷ gs) h →
    IsFirst (f ∷ g ∷ gs) h
one_more f g h gs true is first = record {
  among = behind_head h f (g ∷ gs) first.among;
  least = All-cons (NoLater h) f (g ∷ gs) (no_later-through h g f (head_later g h gs first.least) (before g f true is)) first.least;
}
one_more f g h gs false is first = record {
  among = skip f g h gs first.among;
  least = All-cons (NoLater h) f (g ∷ gs) (head_later f h gs first.least)
      (All-cons (NoLater h) g gs (no_later-through h f g (head_later f h gs first.least) (before g f false is))
      (rest_later f h gs first.least));
}

itself : (f : Fault) → IsFirst (f ∷ []) f
itself f = record {
  among = (0, omega arith, refl);
  least = All-cons (NoLater f) f [] (no_later-itself f) (λ k d below. absurd (omega (arith, below)));
}

first_from : (f h : Fault) (gs : List Fault) → first_with (Some f) gs ≡ Some h → IsFirst (f ∷ gs) h
first_from f h [] is = let same : f ≡ h = cc in subst (λ (x : Fault). IsFirst (f ∷ []) x) same (itself f)
first_from f h (g ∷ gs) is = one_more f g h gs (comes_before g f) refl (first_from (earlier (Some f) g) h gs is)

-- what is found of some faults is the first of them
pub found_first : (faults : List Fault) (f : Fault) → first_with None faults ≡ Some f → IsFirst faults f
found_first [] f is = absurd (cc)
found_first (g ∷ gs) f is = first_from g f gs is

some_found : (f : Fault) (gs : List Fault) → first_with (Some f) gs ≡ None → ⊥
some_found f [] is = absurd (cc)
some_found f (g ∷ gs) is = some_found (earlier (Some f) g) gs is

-- where none is found there is none
pub found_none : (faults : List Fault) → first_with None faults ≡ None → faults ≡ []
found_none [] is = refl
found_none (g ∷ gs) is = absurd (some_found g gs is)
