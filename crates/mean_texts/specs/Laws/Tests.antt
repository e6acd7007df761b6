-- Tests, and names that are compared.
use Rattle.std.proofs.Common.{◌≡◌, ◌⊎◌, refl, sym, ◌∙◌, inl, inr, ℕ, Bool, true, false, not, ◌&&◌, ◌||◌, List}
use Rattle.std.specs.Str.{bytes_eq}
use Rattle.std.proofs.lemmas.Slice.Eq.{bytes_eq-Decides}

pub or_side : (a b : Bool) → (a || b) ≡ true → (a ≡ true) ⊎ (b ≡ true)
or_side true b is = inl refl
or_side false b is = inr is

pub or_false : (a : Bool) → (a || false) ≡ a
or_false true = refl
or_false false = refl

pub and_true : (a : Bool) → (a && true) ≡ a
and_true true = refl
and_true false = refl

pub and_false : (a : Bool) → (a && false) ≡ false
and_false true = refl
and_false false = refl

-- two names are compared either way
pub swapped : (a b : List ℕ) → bytes_eq a b ≡ bytes_eq b a
swapped a b = by_test (bytes_eq a b) refl (bytes_eq b a) refl
  where
    by_test : (x : Bool) → bytes_eq a b ≡ x → (y : Bool) → bytes_eq b a ≡ y → x ≡ y
    by_test true is true its = refl
    by_test false is false its = refl
    by_test true is false its = absurd (wrong (sym its ∙ (bytes_eq-Decides b a).1 (sym ((bytes_eq-Decides a b).0 is))))
      where
        wrong : false ≡ true → ⊥
        wrong e = cc
    by_test false is true its = absurd (wrong (sym is ∙ (bytes_eq-Decides a b).1 (sym ((bytes_eq-Decides b a).0 its))))
      where
        wrong : false ≡ true → ⊥
        wrong e = cc

pub not_false : (b : Bool) → not b ≡ false → b ≡ true
not_false true is = refl
not_false false is = absurd cc

pub flipped : (a b : Bool) → (a && b) ≡ (b && a)
flipped true b = sym (and_true b)
flipped false b = sym (and_false b)
