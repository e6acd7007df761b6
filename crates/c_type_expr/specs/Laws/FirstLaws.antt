-- Faults have one order: of some faults one is the first, and only one.
use Rattle.std.proofs.Common.{◌≡◌, refl, sym, ◌∙◌, ℕ, suc, ◌<◌, ◌⊎◌, inl, inr, List, [], ◌∷◌, All, slice_index_or, arith}
use Rattle.std.specs.List.{Contains}
use Rattle.std.proofs.lemmas.Bool.{cases_lt}
use Rattle.std.proofs.lemmas.List.Elements.{All-contains, All-cons}
use Rattle.std.proofs.Math.Nat.{eq-or-lt_of_le}
use Rattle.c_type_expr.specs.declared.fault.Fault.{Fault}
use Rattle.c_type_expr.specs.Faults.{NoLater, ends_first, starts_last, smaller, IsFirst}

pub no_later-itself : (f : Fault) → NoLater f f
no_later-itself f = smaller refl refl (omega arith)

pub no_later-through : (f g h : Fault) → NoLater f g → NoLater g h → NoLater f h
no_later-through f g h (ends_first a) (ends_first b) = ends_first (omega arith)
no_later-through f g h (ends_first a) (starts_last b c) = ends_first (omega arith)
no_later-through f g h (ends_first a) (smaller b c d) = ends_first (omega arith)
no_later-through f g h (starts_last a s) (ends_first b) = ends_first (omega arith)
no_later-through f g h (starts_last a s) (starts_last b c) = starts_last (a ∙ b) (omega arith)
no_later-through f g h (starts_last a s) (smaller b c d) = starts_last (a ∙ b) (omega arith)
no_later-through f g h (smaller a s n) (ends_first b) = ends_first (omega arith)
no_later-through f g h (smaller a s n) (starts_last b c) = starts_last (a ∙ b) (omega arith)
no_later-through f g h (smaller a s n) (smaller b c d) = smaller (a ∙ b) (s ∙ c) (omega arith)

three_ways : (m n : ℕ) → (m < n) ⊎ ((m ≡ n) ⊎ (n < m))
three_ways m n = elim (cases_lt m n) [
  | inl below ↦ inl below
  | inr above ↦ inr (elim (eq-or-lt_of_le above) [
    | inl same ↦ inl
        (sym same)
    | inr more ↦ inr more
  ])
]

by_number : (f g : Fault) → f.span.end ≡ g.span.end → f.span.start ≡ g.span.start → NoLater f g ⊎ NoLater g f
by_number f g ends starts =
    elim (cases_lt f.number g.number) [
      | inl below ↦ inl (smaller ends starts (omega arith))
      | inr above ↦ inr (smaller (sym ends)
          (sym starts) above)
    ]

by_start : (f g : Fault) → f.span.end ≡ g.span.end → NoLater f g ⊎ NoLater g f
by_start f g ends =
    elim (three_ways f.span.start g.span.start) [
      | inl below ↦ inr (starts_last (sym ends) below)
      | inr other ↦ elim other [ inl same ↦ by_number f g ends same | inr above ↦ inl (starts_last ends above) ]
    ]

-- one of two is no later than the other
pub no_later-either : (f g : Fault) → NoLater f g ⊎ NoLater g f
no_later-either f g =
    elim (three_ways f.span.end g.span.end) [
      | inl below ↦ inl (ends_first below)
      | inr other ↦ elim other [ inl same ↦ by_start f g same | inr above ↦ inr (ends_first above) ]
    ]

same_fault : (f g : Fault) → f.span.end ≡ g.span.end → f.span.start ≡ g.span.start → f.number ≡ g.number → f ≡ g
same_fault f g ends starts numbers = λ i. record { number = numbers i; span = record { start = starts i; end = ends i } }

-- two that are each no later than the other are one
pub no_later-both : (f g : Fault) → NoLater f g → NoLater g f → f ≡ g
no_later-both f g (ends_first a) (ends_first b) = absurd (omega arith)
no_later-both f g (ends_first a) (starts_last b c) = absurd (omega arith)
no_later-both f g (ends_first a) (smaller b c d) = absurd (omega arith)
no_later-both f g (starts_last a s) (ends_first b) = absurd (omega arith)
no_later-both f g (starts_last a s) (starts_last b c) = absurd (omega arith)
no_later-both f g (starts_last a s) (smaller b c d) = absurd (omega arith)
no_later-both f g (smaller a s n) (ends_first b) = absurd (omega arith)
no_later-both f g (smaller a s n) (starts_last b c) = absurd (omega arith)
no_later-both f g (smaller a s n) (smaller b c d) = same_fault f g a s (omega arith)

-- of some faults one at most is the first
pub one_first : (faults : List Fault) (f g : Fault) → IsFirst faults f → IsFirst faults g → f ≡ g
one_first faults f g first other =
    no_later-both f g (All-contains (NoLater f) faults g first.least other.among) (All-contains
    (NoLater g) faults f other.least first.among)

-- none is the first of none
pub no_first : (f : Fault) → IsFirst [] f → ⊥
no_first f first = absurd (omega (arith, first.among.1))

contains_head : (f : Fault) (fs : List Fault) → Contains (f ∷ fs) f
contains_head f fs = (0, omega arith, refl)

contains_tail : (f g : Fault) (fs : List Fault) → Contains fs f → Contains (g ∷ fs) f
contains_tail f g fs c = (suc c.0, omega (arith, c.1), c.2)

all_later : (f g : Fault) (fs : List Fault) → NoLater f g → All (NoLater g) fs → All (NoLater f) fs
all_later f g fs before all = λ k d below. no_later-through f g (slice_index_or fs k d) before (all k d below)

first_with : (f g : Fault) (fs : List Fault) → IsFirst fs g → NoLater f g ⊎ NoLater g f → (h : Fault) × IsFirst (f ∷ fs) h
first_with f g fs first (inl before) =
    (f, record { among = contains_head f fs; least = All-cons (NoLater f) f fs (no_later-itself f) (all_later f g fs before first.least) })
first_with f g fs first (inr behind) =
    (g, record { among = contains_tail g f fs first.among; least = All-cons (NoLater g) f fs behind first.least })

-- of some faults one is the first
pub some_first : (f : Fault) (fs : List Fault) → (h : Fault) × IsFirst (f ∷ fs) h
some_first f [] = (
  f,
  record {
    among = contains_head f [];
    least = All-cons (NoLater f) f [] (no_later-itself f)
        (λ k d below. absurd (omega arith));
  },
)
some_first f (g ∷ fs) = let rest = some_first g fs in first_with f rest.0 (g ∷ fs) rest.1 (no_later-either f rest.0)
