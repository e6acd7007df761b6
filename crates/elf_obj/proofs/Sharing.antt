-- One tag more of those whose symbols are asked to lie apart.
use Rattle.std.proofs.Common.{◌≡◌, ℕ, zero, suc, ◌+◌, ◌-◌, ◌<◌, ◌≤◌, Bool, true, false, List, [], ◌∷◌, ◌++◌, length, take, drop, get_or}
use Rattle.std.proofs.Common.{refl, sym, ap, ◌∙◌, arith, Option, Some, None}
use Rattle.std.specs.Prelude.{◌&&◌, ◌||◌, ◌==◌, not, nat_le, nat_lt, slice_get, if◌then◌else◌}
use Rattle.std.specs.List.{list_any}
use Rattle.std.proofs.lemmas.Bool.Decides.{nat_tests}
use Rattle.elf_base.specs.Laws.Tests.{both, same_is, is_same}
use Rattle.elf_obj.specs.declared.parts.Symbol.{Symbol}
use Rattle.elf_obj.specs.declared.parts.Home.{Home}
use Rattle.elf_obj.specs.Records.{home_number}
use Rattle.elf_obj.specs.Rules.{shares_found, is_variable, is_apart, can_be_tagged, tag_keeps}
use Rattle.elf_obj.specs.Apart.{lies_in, is_found_apart, first_shared, meets}
use Rattle.elf_obj.proofs.Names.{any-snoc, other}

pub apart-step : (home : Home) (symbols : List Symbol) (ts : List ℕ) (i t : ℕ) → drop i ts ≡ t ∷ drop (i + 1) ts
    → take (i + 1) ts ≡ take i ts ++ t ∷ []
    → is_found_apart home symbols (take i ts) (slice_get symbols t) ≡ true
    → first_shared home symbols i (take i ts) (drop i ts) ≡ first_shared home symbols (i + 1) (take (i + 1) ts) (drop (i + 1) ts)
apart-step home symbols ts i t front more good =
    let rest : List ℕ = drop (i + 1) ts in
    ap (first_shared home symbols i (take i ts)) front
    ∙ ap (λ (b : Bool). if b then first_shared home symbols (i + 1) (take i ts ++ t ∷ []) rest else i) good
    ∙ ap (λ (l : List ℕ). first_shared home symbols (i + 1) l rest) (sym more)

pub shared-step : (home : Home) (symbols : List Symbol) (ts : List ℕ) (i t : ℕ) → drop i ts ≡ t ∷ drop (i + 1) ts
    → is_found_apart home symbols (take i ts) (slice_get symbols t) ≡ false → first_shared home symbols i (take i ts) (drop i ts) ≡ i
shared-step home symbols ts i t front bad =
    ap (first_shared home symbols i (take i ts)) front
    ∙ ap (λ (b : Bool). if b then first_shared home symbols (i + 1) (take i ts ++ t ∷ []) (drop (i + 1) ts) else i) bad

-- ---- the test of one symbol

pub not-there : (home : Home) (symbols : List Symbol) (earlier : List ℕ) (o : Option Symbol) → o ≡ None
    → is_found_apart home symbols earlier o ≡ false
not-there home symbols earlier o h = ap (is_found_apart home symbols earlier) h

pub not-object : (home : Home) (symbols : List Symbol) (earlier : List ℕ) (o : Option Symbol) (s : Symbol) → o ≡ Some s → s.function ≡ true
    → is_found_apart home symbols earlier o ≡ false
not-object home symbols earlier o s h function =
    ap (is_found_apart home symbols earlier) h ∙ ap (λ (b : Bool). not b && (not (lies_in home s) || is_apart symbols earlier s)) function

pub elsewhere : (home : Home) (symbols : List Symbol) (earlier : List ℕ) (o : Option Symbol) (s : Symbol) → o ≡ Some s
    → s.function ≡ false → lies_in home s ≡ false
    → is_found_apart home symbols earlier o ≡ true
elsewhere home symbols earlier o s h object other =
    ap (is_found_apart home symbols earlier) h ∙ ap (λ (b : Bool). not b && (not (lies_in home s) || is_apart symbols earlier s)) object
    ∙ ap (λ (b : Bool). not b || is_apart symbols earlier s) other

pub as-apart : (home : Home) (symbols : List Symbol) (earlier : List ℕ) (o : Option Symbol) (s : Symbol) (shares : Bool) → o ≡ Some s
    → s.function ≡ false
    → lies_in home s ≡ true → shares ≡ list_any (λ e. shares_found s (slice_get symbols e)) earlier
    → is_found_apart home symbols earlier o ≡ not shares
as-apart home symbols earlier o s shares h object here is =
    ap (is_found_apart home symbols earlier) h ∙ ap (λ (b : Bool). not b && (not (lies_in home s) || is_apart symbols earlier s)) object
    ∙ ap (λ (b : Bool). not b || is_apart symbols earlier s) here ∙ ap not (sym is)

pub home-is : (home : Home) (s : Symbol) → lies_in home s ≡ true → home_number s.home ≡ home_number home
home-is home s h = is_same (home_number s.home) (home_number home) h

-- ---- what was seen

-- the test of a symbol of the section, against those of earlier tags
abbrev pub Seen : Home → List Symbol → List (ℕ × ℕ) → List ℕ → Type 0
Seen home symbols entries earlier = (q : Symbol) → home_number q.home ≡ home_number home
    → list_any (meets q.value (q.value + q.size)) entries ≡ list_any (λ e. shares_found q (slice_get symbols e)) earlier

to_last : (a end : ℕ) → 1 ≤ end → nat_lt a end ≡ nat_le a (end - 1)
to_last a end h = grind (arith, nat_tests)

is_other : (a b c : ℕ) → a ≡ b → (c == b) ≡ false → (a == c) ≡ false
is_other a b c h g = grind (arith, nat_tests)

-- two objects of the section share a byte where the intervals do
pub shares-is : (home : Home) (q s : Symbol) (o : Option Symbol) → o ≡ Some s → home_number q.home ≡ home_number home
    → home_number s.home ≡ home_number home
    → 1 ≤ s.size → shares_found q o ≡ meets q.value (q.value + q.size) (s.value + s.size - 1, s.value)
shares-is home q s o there hq hs some =
    let same : (home_number q.home == home_number s.home) ≡ true = same_is (home_number q.home) (home_number s.home) (hq ∙ sym hs) in
    let last : nat_lt q.value (s.value + s.size) ≡ nat_le q.value (s.value + s.size - 1) =
    to_last q.value (s.value + s.size) (omega (arith, some)) in
    ap (shares_found q) there
    ∙ ap (λ (b : Bool). b && nat_lt q.value (s.value + s.size) && nat_lt s.value (q.value + q.size)) same
    ∙ ap (λ (b : Bool). b && nat_lt s.value (q.value + q.size)) last

pub shares-none : (home : Home) (q s : Symbol) (o : Option Symbol) → o ≡ Some s → home_number q.home ≡ home_number home
    → lies_in home s ≡ false
    → shares_found q o ≡ false
shares-none home q s o there hq other =
    let apart : (home_number q.home == home_number s.home) ≡ false =
    is_other (home_number q.home) (home_number home) (home_number s.home) hq other in
    ap (shares_found q) there
    ∙ ap (λ (b : Bool). b && nat_lt q.value (s.value + s.size) && nat_lt s.value (q.value + q.size)) apart

or_no : (a : Bool) → a ≡ (a || false)
or_no true = refl
or_no false = refl

-- one tag more, whose symbol was put among the intervals or lies elsewhere
pub seen-put : (home : Home) (symbols : List Symbol) (old new : List (ℕ × ℕ)) (ts : List ℕ) (i t : ℕ) (s : Symbol)
    → take (i + 1) ts ≡ take i ts ++ t ∷ []
    → slice_get symbols t ≡ Some s → home_number s.home ≡ home_number home → 1 ≤ s.size → Seen home symbols old (take i ts)
    → ((test : ℕ × ℕ → Bool) → list_any test new ≡ (list_any test old || test (s.value + s.size - 1, s.value)))
    → Seen home symbols new (take (i + 1) ts)
seen-put home symbols old new ts i t s more there hs some seen put = λ q hq.
    let test : ℕ → Bool = λ e. shares_found q (slice_get symbols e) in
    put (meets q.value (q.value + q.size))
    ∙ ap (λ (b : Bool). b || meets q.value (q.value + q.size) (s.value + s.size - 1, s.value)) (seen q hq)
    ∙ ap (λ (b : Bool). list_any test (take i ts) || b) (sym (shares-is home q s (slice_get symbols t) there hq hs some))
    ∙ sym (ap (list_any test) more ∙ any-snoc test (take i ts) t)

pub seen-other : (home : Home) (symbols : List Symbol) (entries : List (ℕ × ℕ)) (ts : List ℕ) (i t : ℕ) (s : Symbol)
    → take (i + 1) ts ≡ take i ts ++ t ∷ []
    → slice_get symbols t ≡ Some s → lies_in home s ≡ false → Seen home symbols entries (take i ts)
    → Seen home symbols entries (take (i + 1) ts)
seen-other home symbols entries ts i t s more there other seen = λ q hq.
    let test : ℕ → Bool = λ e. shares_found q (slice_get symbols e) in
    seen q hq ∙ or_no (list_any test (take i ts))
    ∙ ap (λ (b : Bool). list_any test (take i ts) || b) (sym (shares-none home q s (slice_get symbols t) there hq other))
    ∙ sym (ap (list_any test) more ∙ any-snoc test (take i ts) t)

-- ---- elements of a list

pub get-some : (xs : List Symbol) (i : ℕ) (x d : Symbol) → i < length xs → x ≡ get_or xs i d → slice_get xs i ≡ Some x
get-some [] i x d h is = absurd (omega (arith, h))
get-some (y ∷ ys) zero x d h is = ap Some (sym is)
get-some (y ∷ ys) (suc i) x d h is = get-some ys i x d (omega (arith, h)) is

pub get-none : (xs : List Symbol) (i : ℕ) → length xs ≤ i → slice_get xs i ≡ None
get-none [] i h = refl
get-none (y ∷ ys) zero h = absurd (omega (arith, h))
get-none (y ∷ ys) (suc i) h = get-none ys i (omega (arith, h))

pub not_same : (a b : ℕ) → (a ≡ b → ⊥) → (a == b) ≡ false
not_same a b h = chosen (a == b) refl
  where
    chosen : (is : Bool) → (a == b) ≡ is → (a == b) ≡ false
    chosen true e = absurd (h (is_same a b e))
    chosen false e = e

-- the number of the first tag is that of the turn exactly where its symbol is not apart
shared-behind : (home : Home) (symbols : List Symbol) (k : ℕ) (earlier ts : List ℕ) → k ≤ first_shared home symbols k earlier ts
shared-behind home symbols k earlier [] = omega arith
shared-behind home symbols k earlier (t ∷ ts) =
    chosen (is_found_apart home symbols earlier (slice_get symbols t)) (shared-behind home symbols (k + 1) (earlier ++ t ∷ []) ts)
  where
    chosen : (b : Bool) → k + 1 ≤ first_shared home symbols (k + 1) (earlier ++ t ∷ []) ts
        → k ≤ (if b then first_shared home symbols (k + 1) (earlier ++ t ∷ []) ts else k)
    chosen true h = omega (arith, h)
    chosen false h = omega arith

pub apart-is : (home : Home) (symbols : List Symbol) (ts : List ℕ) (i shared t : ℕ) → drop i ts ≡ t ∷ drop (i + 1) ts
    → take (i + 1) ts ≡ take i ts ++ t ∷ []
    → first_shared home symbols i (take i ts) (drop i ts) ≡ shared
    → not (i == shared) ≡ is_found_apart home symbols (take i ts) (slice_get symbols t)
apart-is home symbols ts i shared t front more h = chosen (is_found_apart home symbols (take i ts) (slice_get symbols t)) refl
  where
    chosen : (b : Bool) → is_found_apart home symbols (take i ts) (slice_get symbols t) ≡ b → not (i == shared) ≡ b
    chosen true e =
        let behind = shared-behind home symbols (i + 1) (take (i + 1) ts) (drop (i + 1) ts) in
        ap not (other i shared (omega (arith, behind, apart-step home symbols ts i t front more e, h)))
    chosen false e = ap not (same_is i shared (sym (shared-step home symbols ts i t front e) ∙ h))

-- ---- the two sections of objects that may be tagged

apart_anyway : (f a l : Bool) → not f ≡ true → a ≡ true → (not f && (not l || a)) ≡ true
apart_anyway false true true hf ha = refl
apart_anyway false true false hf ha = refl
apart_anyway false false l hf ha = cc
apart_anyway true a l hf ha = cc

found-apart : (home : Home) (symbols : List Symbol) (earlier : List ℕ) (o : Option Symbol) → can_be_tagged symbols earlier o ≡ true
    → is_found_apart home symbols earlier o ≡ true
found-apart home symbols earlier None h = cc
found-apart home symbols earlier (Some s) h =
    let apart = both (is_variable s.home && not s.function) (is_apart symbols earlier s) h in
    let object = both (is_variable s.home) (not s.function) apart.0 in
    apart_anyway s.function (is_apart symbols earlier s) (lies_in home s) object.1 apart.1

pub keeps-apart : (home : Home) (symbols : List Symbol) (earlier : List ℕ) (least t : ℕ) → tag_keeps symbols earlier least t ≡ true
    → is_found_apart home symbols earlier (slice_get symbols t) ≡ true
unfolding tag_keeps
keeps-apart home symbols earlier least t h =
    found-apart home symbols earlier (slice_get symbols t) (both (nat_le least t) (can_be_tagged symbols earlier (slice_get symbols t)) h).1
