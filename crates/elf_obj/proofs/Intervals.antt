-- Intervals in order, each known by its last byte and with its first: looking for one, and putting one more between them.
use Rattle.std.proofs.Common.{◌≡◌, ℕ, ◌+◌, ◌<◌, ◌≤◌, Bool, true, false, List, [], ◌∷◌, refl, sym, ap, ◌∙◌, arith}
use Rattle.std.specs.Prelude.{◌&&◌, ◌||◌, nat_le, nat_lt, cond}
use Rattle.std.specs.List.{list_any}
use Rattle.std.specs.Ordering.{nat_cmp, match_ordering, MatchOrdering, is_le}
use Rattle.std.specs.declared.cmp.Ordering.{Ordering}
use Rattle.std.specs.declared.cmp.Ordering.TheVariants.{Less, Equal, Greater}
use Rattle.std.specs.Cmp.{ranks}
use Rattle.std.specs.BTreeMap.{insert_entry}
use Rattle.std.specs.BTreeMap.Range.{entries_between}
use Rattle.std.specs.declared.ops.Bound.TheVariants.{Included, Unbounded}
use Rattle.std.proofs.lemmas.Bool.Decides.{nat_tests}
use Rattle.elf_base.specs.Laws.Tests.{le_is, lt_is, neither}
use Rattle.elf_obj.specs.Apart.{meets, starts_before}

-- each interval begins behind the one before
abbrev pub Rising : ℕ → List (ℕ × ℕ) → Type 0
Rising low [] = Unit {0}
Rising low (e ∷ es) = (low ≤ e.1) × ((e.1 ≤ e.0) × Rising (e.0 + 1) es)

not_lt : (a b : ℕ) → b ≤ a → nat_lt a b ≡ false
not_lt a b h = grind (arith, nat_tests)

not_le : (a b : ℕ) → b < a → nat_le a b ≡ false
not_le a b h = grind (arith, nat_tests)

no_and : (a b : Bool) → b ≡ false → (a && b) ≡ false
no_and true b h = h
no_and false b h = refl

both_no : (a b : Bool) → a ≡ false → b ≡ false → (a || b) ≡ false
both_no a b ha hb = rw (ha, hb) refl

-- all of them begin behind the end
none_behind : (low first end : ℕ) (es : List (ℕ × ℕ)) → Rising low es → end ≤ low → list_any (meets first end) es ≡ false
none_behind low first end [] r h = refl
none_behind low first end (e ∷ es) r h =
    both_no (meets first end e) (list_any (meets first end) es)
    (no_and (nat_le first e.0) (nat_lt e.1 end) (not_lt e.1 end (omega (arith, r.0, h))))
    (none_behind (e.0 + 1) first end es r.1.1 (omega (arith, r.0, r.1.0, h)))

from_is : (a b : ℕ) → (is_le (nat_cmp a b) && true) ≡ nat_le a b
from_is a b = chosen (nat_cmp a b) (ranks a b)
  where
    chosen : (o : Ordering) → MatchOrdering o (a < b) (a ≡ b) (b < a) → (is_le o && true) ≡ nat_le a b
    chosen Less h = sym (le_is a b (omega (arith, h)))
    chosen Equal h = sym (le_is a b (omega (arith, h)))
    chosen Greater h = sym (not_le a b h)

at_most : (a b : ℕ) → nat_lt a b ≡ false → b ≤ a
at_most a b h = grind (arith, nat_tests)

below : (a b : ℕ) → nat_le a b ≡ false → b < a
below a b h = grind (arith, nat_tests)

-- looking at the first that ends behind the place is looking at all
pub found_first : (low first end : ℕ) (es : List (ℕ × ℕ)) → Rising low es
    → starts_before end (entries_between nat_cmp (Included first) Unbounded es) ≡ list_any (meets first end) es
found_first low first end [] r = refl
found_first low first end (e ∷ es) r =
    ap (λ (b : Bool). starts_before end (cond b (e ∷ rest) rest)) (from_is first e.0)
    ∙ step (nat_le first e.0) (found_first (e.0 + 1) first end es r.1.1)
  where
    rest : List (ℕ × ℕ)
    rest = entries_between nat_cmp (Included first) Unbounded es

    ends : (b : Bool) → nat_lt e.1 end ≡ b → b ≡ (b || list_any (meets first end) es)
    ends true h = refl
    ends false h = sym (none_behind (e.0 + 1) first end es r.1.1 (omega (arith, at_most e.1 end h, r.1.0)))

    step : (b : Bool) → starts_before end rest ≡ list_any (meets first end) es
        → starts_before end (cond b (e ∷ rest) rest) ≡ ((b && nat_lt e.1 end) || list_any (meets first end) es)
    step true others = ends (nat_lt e.1 end) refl
    step false others = others

-- ---- one interval more

so_not : (a b : Bool) → (a && b) ≡ false → a ≡ true → b ≡ false
so_not true b h e = h
so_not false b h e = cc

nor_this : (a b : Bool) → (a && b) ≡ false → b ≡ true → a ≡ false
nor_this true b h e = cc
nor_this false b h e = refl

-- the interval ends before another begins, or behind it, and not at its end
before_it : (first last : ℕ) (e : ℕ × ℕ) → meets first (last + 1) e ≡ false → first ≤ last → last < e.0 → last + 1 ≤ e.1
before_it first last e h a lt = at_most e.1 (last + 1)
    (so_not (nat_le first e.0) (nat_lt e.1 (last + 1)) h (le_is first e.0 (omega (arith, a, lt))))

behind_it : (first last : ℕ) (e : ℕ × ℕ) → meets first (last + 1) e ≡ false → e.1 ≤ e.0 → e.0 < last → e.0 + 1 ≤ first
behind_it first last e h a lt =
    let no : nat_le first e.0 ≡ false = nor_this (nat_le first e.0) (nat_lt e.1 (last + 1)) h
    (lt_is e.1 (last + 1) (omega (arith, a, lt))) in
    omega (arith, below first e.0 no)

not_at : (first last : ℕ) (e : ℕ × ℕ) → meets first (last + 1) e ≡ false → first ≤ last → e.1 ≤ e.0 → last ≡ e.0 → ⊥
not_at first last e h a b same =
    let le : nat_le first e.0 ≡ true = le_is first e.0 (omega (arith, a, same)) in
    let no = at_most e.1 (last + 1) (so_not (nat_le first e.0) (nat_lt e.1 (last + 1)) h le) in
    absurd (omega (arith, no, b, same))

pub put_rising : (low first last : ℕ) (es : List (ℕ × ℕ)) → Rising low es → low ≤ first → first ≤ last
    → list_any (meets first (last + 1)) es ≡ false
    → Rising low (insert_entry nat_cmp es last first)
put_rising low first last [] r a b h = (a, (b, tt))
put_rising low first last (e ∷ es) r a b h =
    let no = neither (meets first (last + 1) e) (list_any (meets first (last + 1)) es) h in
    chosen (nat_cmp last e.0) (ranks last e.0) no.0 (λ behind. put_rising (e.0 + 1) first last es r.1.1 behind b no.1)
  where
    chosen : (o : Ordering) → MatchOrdering o (last < e.0) (last ≡ e.0) (e.0 < last) → meets first (last + 1) e ≡ false
        → (e.0 + 1 ≤ first → Rising (e.0 + 1) (insert_entry nat_cmp es last first))
        → Rising low (match_ordering o ((last, first) ∷ e ∷ es) ((e.0, first) ∷ es) (e ∷ insert_entry nat_cmp es last first))
    chosen Less g here rest = (a, (b, (before_it first last e here b g, (r.1.0, r.1.1))))
    chosen Equal g here rest = absurd (not_at first last e here b r.1.0 g)
    chosen Greater g here rest = (r.0, (r.1.0, rest (behind_it first last e here r.1.0 g)))

swapped : (a b : Bool) → (a || b) ≡ (b || a)
swapped true true = refl
swapped true false = refl
swapped false true = refl
swapped false false = refl

grouped : (a b c d : Bool) → b ≡ (c || d) → (a || b) ≡ ((a || c) || d)
grouped true b c d h = refl
grouped false b c d h = h

pub put_any : (test : ℕ × ℕ → Bool) (low first last : ℕ) (es : List (ℕ × ℕ)) → Rising low es → first ≤ last
    → list_any (meets first (last + 1)) es ≡ false
    → list_any test (insert_entry nat_cmp es last first) ≡ (list_any test es || test (last, first))
put_any test low first last [] r b h = swapped (test (last, first)) false
put_any test low first last (e ∷ es) r b h =
    let no = neither (meets first (last + 1) e) (list_any (meets first (last + 1)) es) h in
    chosen (nat_cmp last e.0) (ranks last e.0) no.0 (put_any test (e.0 + 1) first last es r.1.1 b no.1)
  where
    chosen : (o : Ordering) → MatchOrdering o (last < e.0) (last ≡ e.0) (e.0 < last) → meets first (last + 1) e ≡ false
        → list_any test (insert_entry nat_cmp es last first) ≡ (list_any test es || test (last, first))
        → list_any test (match_ordering o ((last, first) ∷ e ∷ es) ((e.0, first) ∷ es) (e ∷ insert_entry nat_cmp es last first))
        ≡ ((test e || list_any test es) || test (last, first))
    chosen Less g here rest = swapped (test (last, first)) (test e || list_any test es)
    chosen Equal g here rest = absurd (not_at first last e here b r.1.0 g)
    chosen Greater g here rest = grouped (test e) (list_any test (insert_entry nat_cmp es last first)) (list_any test es)
        (test (last, first)) rest
