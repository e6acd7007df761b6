-- Each address lies in one tagged object at most.
use Rattle.std.proofs.Common.{◌≡◌, ℕ, zero, suc, ◌+◌, ◌%◌, ◌<◌, ◌≤◌, Bool, true, false, cond, ◌&&◌, nat_le, nat_lt}
use Rattle.std.proofs.Common.{List, [], ◌∷◌, ◌++◌, length, filter_map, get_or, Option, Some, slice_get}
use Rattle.std.proofs.Common.{refl, sym, ap, subst, ◌∙◌, arith, inl, inr}
use Rattle.std.specs.Prelude.{◌⊎◌, if◌then◌else◌}
use Rattle.std.specs.List.{cons_option, AllByRecursion}
use Rattle.std.specs.Option.{option_map}
use Rattle.std.proofs.lemmas.Bool.{and_parts, true≢false, leb-true, ltb-true, lt-ltb, eq-eqb, cases_lt}
use Rattle.std.proofs.lemmas.List.{length-map, get_or-map}
use Rattle.std.proofs.lemmas.Option.{none-some, slice_get-get_or, same_Some}
use Rattle.elf_obj.specs.declared.parts.Symbol.{Symbol}
use Rattle.elf_obj.specs.Object.{Object}
use Rattle.elf_obj.specs.ObjectFile.{IsValid}
use Rattle.elf_obj.specs.Records.{home_number}
use Rattle.elf_obj.specs.Sections.{sizes_of}
use Rattle.elf_obj.specs.Rules.{symbols_keep, shares_byte, tags_keep}
use Rattle.linker.specs.declared.spans.Span.{Span}
use Rattle.linker.specs.Sections.{starts, ends, init_sizes, zero_sizes}
use Rattle.linker.specs.Got.{got_bytes}
use Rattle.linker.specs.Data.{filled_size, zero_size}
use Rattle.linker.specs.Spans.{is_init, span_of, object_spans, init_at, zero_at, spans_from}
use Rattle.linker.specs.Laws.LaidLaws.{round_up_16}
use Rattle.linker.specs.Laws.Starting.{start_reach, start_next}
use Rattle.linker.proofs.TaggedSymbols.{IsPlaced, IsTag, tag_is, tags_left, Keeps, keeps_more, keeps_new}
use Rattle.linker.proofs.Listed.{blank}

-- ---- how many spans cover an address

abbrev pub covers : ℕ → Span → Bool
covers a s = nat_le s.start a && nat_lt a (s.start + s.bytes)

abbrev pub covering : ℕ → List Span → ℕ
covering a [] = 0
covering a (s ∷ ss) = cond (covers a s) 1 0 + covering a ss

covering-append : (a : ℕ) (xs ys : List Span) → covering a (xs ++ ys) ≡ covering a xs + covering a ys
covering-append a [] ys = omega arith
covering-append a (x ∷ xs) ys = omega (arith, covering-append a xs ys)

pub covered : (a : ℕ) (s : Span) → covers a s ≡ true → (s.start ≤ a) × (a < s.start + s.bytes)
covered a s h =
    let parts = and_parts (nat_le s.start a) (nat_lt a (s.start + s.bytes)) h in
    (leb-true s.start a parts.0, ltb-true a (s.start + s.bytes) parts.1)

-- ---- within one object

-- where the sections of an object begin that may be written, one behind the other
pub record Room : Type 0 where
  pub object : Object
  pub inits : ℕ
  pub zeros : ℕ
  pub keep : symbols_keep (sizes_of object) [] object.symbols ≡ true
  pub order : inits + length object.init_bytes ≤ zeros

abbrev span_in : Room → Symbol → Span
span_in w s = span_of w.inits w.zeros s

abbrev found_in : Room → ℕ → Option Span
found_in w t = option_map (span_in w) (slice_get w.object.symbols t)

found_is : (w : Room) (t : ℕ) (s : Symbol) → slice_get w.object.symbols t ≡ Some s → found_in w t ≡ Some (span_in w s)
found_is w t s is = ap (option_map (span_in w)) is

-- the section in which a symbol lies
abbrev InSection : Room → ℕ → Type 0
InSection w a =
    ((w.inits ≤ a) × (a < w.inits + length w.object.init_bytes)) ⊎ ((w.zeros ≤ a) × (a < w.zeros + w.object.zero_bytes))

in_section : (w : Room) (s : Symbol) (a : ℕ) → IsPlaced (sizes_of w.object) s → (span_in w s).start ≤ a
    → a < (span_in w s).start + (span_in w s).bytes → InSection w a
in_section w s a p low high = by_test (is_init s.home) p.fits low high
  where
    by_test : (b : Bool) → s.value + s.size ≤ (if b then length w.object.init_bytes else w.object.zero_bytes)
        → (if b then w.inits else w.zeros) + s.value ≤ a → a < (if b then w.inits else w.zeros) + s.value + s.size → InSection w a
    by_test true fits low high = inl (omega arith, omega arith)
    by_test false fits low high = inr (omega arith, omega arith)

-- two symbols whose bytes have an address in common
share : (w : Room) (s e : Symbol) (a : ℕ) → IsPlaced (sizes_of w.object) s → IsPlaced (sizes_of w.object) e → covers a (span_in w s) ≡ true
    → covers a (span_in w e) ≡ true → shares_byte s e ≡ true
share w s e a p q h g =
    let order = w.order in
    by_tests (is_init s.home) (is_init e.home) p.number q.number p.fits q.fits (covered a (span_in w s) h) (covered a (span_in w e) g) order
  where
    joined : home_number s.home ≡ home_number e.home → s.value < e.value + e.size → e.value < s.value + s.size → shares_byte s e ≡ true
    joined home one other =
        rw (eq-eqb (home_number s.home) (home_number e.home) home, lt-ltb s.value (e.value + e.size) one)
        (lt-ltb e.value (s.value + s.size) other)

    by_tests : (b c : Bool) → home_number s.home ≡ (if b then 3 else 4) → home_number e.home ≡ (if c then 3 else 4)
        → s.value + s.size ≤ (if b then length w.object.init_bytes else w.object.zero_bytes)
        → e.value + e.size ≤ (if c then length w.object.init_bytes else w.object.zero_bytes)
        → ((if b then w.inits else w.zeros) + s.value ≤ a) × (a < (if b then w.inits else w.zeros) + s.value + s.size)
        → ((if c then w.inits else w.zeros) + e.value ≤ a) × (a < (if c then w.inits else w.zeros) + e.value + e.size)
        → w.inits + length w.object.init_bytes ≤ w.zeros → shares_byte s e ≡ true
    by_tests true true m n f k l r order =
        let l0 = l.0 in let l1 = l.1 in let r0 = r.0 in let r1 = r.1 in joined (m ∙ sym n) (omega arith) (omega arith)
    by_tests false false m n f k l r order =
        let l0 = l.0 in let l1 = l.1 in let r0 = r.0 in let r1 = r.1 in joined (m ∙ sym n) (omega arith) (omega arith)
    by_tests true false m n f k l r order =
        let l0 = l.0 in let l1 = l.1 in let r0 = r.0 in let r1 = r.1 in absurd (omega arith)
    by_tests false true m n f k l r order =
        let l0 = l.0 in let l1 = l.1 in let r0 = r.0 in let r1 = r.1 in absurd (omega arith)

-- the symbol of a tag of the object
abbrev TagOf : Room → List ℕ → ℕ → Type 0
TagOf w earlier t = IsTag (sizes_of w.object) w.object.symbols earlier t

-- an address of a symbol is in no symbol of a later tag
none_covers : (w : Room) (e : Symbol) (a : ℕ) → IsPlaced (sizes_of w.object) e → covers a (span_in w e) ≡ true
    → (earlier : List ℕ) (least : ℕ) (ts : List ℕ) → Keeps w.object.symbols earlier e → tags_keep w.object.symbols earlier least ts ≡ true
    → covering a (filter_map (found_in w) ts) ≡ 0
none_covers w e a q g earlier least [] keeps h = refl
none_covers w e a q g earlier least (t ∷ ts) keeps h =
    let tag : TagOf w earlier t = tag_is (sizes_of w.object) w.object.symbols earlier least t ts w.keep h in
    let rest : covering a (filter_map (found_in w) ts) ≡ 0 =
    none_covers w e a q g (earlier ++ t ∷ []) (t + 1) ts (keeps_more w.object.symbols earlier t e keeps)
    (tags_left w.object.symbols earlier least t ts h) in
    let here : covers a (span_in w tag.symbol) ≡ false = by_test tag (covers a (span_in w tag.symbol)) refl in
    ap (λ (x : Option Span). covering a (cons_option x (filter_map (found_in w) ts))) (found_is w t tag.symbol tag.there)
    ∙ (λ i. cond (here i) 1 0 + rest i)
  where
    by_test : (tag : TagOf w earlier t) (b : Bool) → covers a (span_in w tag.symbol) ≡ b
        → covers a (span_in w tag.symbol) ≡ false
    by_test tag true is =
        absurd (true≢false (sym (share w tag.symbol e a tag.place q is g) ∙ keeps tag.symbol tag.apart))
    by_test tag false is = is

once : (w : Room) (a : ℕ) (earlier : List ℕ) (least : ℕ) (ts : List ℕ) → tags_keep w.object.symbols earlier least ts ≡ true
    → covering a (filter_map (found_in w) ts) ≤ 1
once w a earlier least [] h = omega arith
once w a earlier least (t ∷ ts) h =
    let tag : TagOf w earlier t = tag_is (sizes_of w.object) w.object.symbols earlier least t ts w.keep h in
    let left = tags_left w.object.symbols earlier least t ts h in
    let is : covering a (filter_map (found_in w) (t ∷ ts)) ≡ cond (covers a (span_in w tag.symbol)) 1 0
    + covering a (filter_map (found_in w) ts) =
    ap (λ (x : Option Span). covering a (cons_option x (filter_map (found_in w) ts))) (found_is w t tag.symbol tag.there) in
    let le : cond (covers a (span_in w tag.symbol)) 1 0 + covering a (filter_map (found_in w) ts) ≤ 1 =
    by_test (covers a (span_in w tag.symbol)) (once w a (earlier ++ t ∷ []) (t + 1) ts left)
    (λ seen. none_covers w tag.symbol a tag.place seen (earlier ++ t ∷ []) (t + 1) ts
    (keeps_new w.object.symbols earlier t tag.symbol tag.there) left) in
    omega arith
  where
    by_test : (b : Bool) → covering a (filter_map (found_in w) ts) ≤ 1 → (b ≡ true → covering a (filter_map (found_in w) ts) ≡ 0)
        → cond b 1 0 + covering a (filter_map (found_in w) ts) ≤ 1
    by_test true le none = let zero_left = none refl in omega arith
    by_test false le none = omega arith

-- where one covers an address, it is in a section
where_covered : (w : Room) (a : ℕ) (earlier : List ℕ) (least : ℕ) (ts : List ℕ) → tags_keep w.object.symbols earlier least ts ≡ true
    → 0 < covering a (filter_map (found_in w) ts) → InSection w a
where_covered w a earlier least [] h some = absurd (omega arith)
where_covered w a earlier least (t ∷ ts) h some =
    let tag : TagOf w earlier t = tag_is (sizes_of w.object) w.object.symbols earlier least t ts w.keep h in
    let is : covering a (filter_map (found_in w) (t ∷ ts)) ≡ cond (covers a (span_in w tag.symbol)) 1 0
    + covering a (filter_map (found_in w) ts) =
    ap (λ (x : Option Span). covering a (cons_option x (filter_map (found_in w) ts))) (found_is w t tag.symbol tag.there) in
    by_test tag (covers a (span_in w tag.symbol)) refl (omega arith)
    (where_covered w a (earlier ++ t ∷ []) (t + 1) ts (tags_left w.object.symbols earlier least t ts h))
  where
    by_test : (tag : TagOf w earlier t) (b : Bool) → covers a (span_in w tag.symbol) ≡ b
        → 0 < cond b 1 0 + covering a (filter_map (found_in w) ts)
        → (0 < covering a (filter_map (found_in w) ts) → InSection w a) → InSection w a
    by_test tag true seen more rest =
        let at = covered a (span_in w tag.symbol) seen in in_section w tag.symbol a tag.place at.0 at.1
    by_test tag false other more rest = rest (omega arith)

-- ---- each span is of whole granules, and ends within the data

-- a span of whole granules, not empty, that ends at a place at most
abbrev pub IsGood : ℕ → Span → Type 0
IsGood end s = (s.start % 16 ≡ 0) × (s.bytes % 16 ≡ 0) × (0 < s.bytes) × (s.start + s.bytes ≤ end)

good_span : (w : Room) (end : ℕ) (s : Symbol) → w.inits % 16 ≡ 0 → w.zeros % 16 ≡ 0 → w.inits + length w.object.init_bytes ≤ end
    → w.zeros + w.object.zero_bytes ≤ end → IsPlaced (sizes_of w.object) s → IsGood end (span_in w s)
good_span w end s init_whole zero_whole inits_in zeros_in p = by_test (is_init s.home) p.fits
  where
    start : s.value % 16 ≡ 0
    start = p.start

    by_test : (b : Bool) → s.value + s.size ≤ (if b then length w.object.init_bytes else w.object.zero_bytes)
        → (((if b then w.inits else w.zeros) + s.value) % 16 ≡ 0) × (s.size % 16 ≡ 0) × (0 < s.size)
        × ((if b then w.inits else w.zeros) + s.value + s.size ≤ end)
    by_test true fits = (omega (arith, start), p.bytes, p.some, omega arith)
    by_test false fits = (omega (arith, start), p.bytes, p.some, omega arith)

pub good_object : (w : Room) (end : ℕ) → w.inits % 16 ≡ 0 → w.zeros % 16 ≡ 0 → w.inits + length w.object.init_bytes ≤ end
    → w.zeros + w.object.zero_bytes ≤ end → (earlier : List ℕ) (least : ℕ) (ts : List ℕ)
    → tags_keep w.object.symbols earlier least ts ≡ true
    → AllByRecursion (IsGood end) (filter_map (found_in w) ts)
good_object w end a b c d earlier least [] h = tt
good_object w end a b c d earlier least (t ∷ ts) h =
    let tag : TagOf w earlier t = tag_is (sizes_of w.object) w.object.symbols earlier least t ts w.keep h in
    let rest = good_object w end a b c d (earlier ++ t ∷ []) (t + 1) ts (tags_left w.object.symbols earlier least t ts h) in
    let P : Option Span → Type 0 = λ x. AllByRecursion (IsGood end) (cons_option x (filter_map (found_in w) ts)) in
    subst P (sym (found_is w t tag.symbol tag.there)) (good_span w end tag.symbol a b c d tag.place, rest)

-- ---- object by object

-- where the sections of the object of a number begin
pub record IsSited (objects : List Object) (k : ℕ) (o : Object) : Type 0 where
  pub init_reach : init_at objects k + length o.init_bytes ≤ ends 16 (got_bytes objects) (init_sizes objects)
  pub zero_reach : zero_at objects k + o.zero_bytes ≤ filled_size objects + zero_size objects
  pub init_next : k + 1 < length objects → init_at objects k + length o.init_bytes ≤ init_at objects (k + 1)
  pub zero_next : k + 1 < length objects → zero_at objects k + o.zero_bytes ≤ zero_at objects (k + 1)

within_get : {A : Type 0} (xs : List A) (k : ℕ) (x : A) → slice_get xs k ≡ Some x → k < length xs
within_get [] k x h = absurd (none-some x h)
within_get (y ∷ ys) zero x h = omega arith
within_get (y ∷ ys) (suc k) x h = omega (arith, within_get ys k x h)

pub sited : (objects : List Object) (k : ℕ) (o : Object) → slice_get objects k ≡ Some o → IsSited objects k o
sited objects k o there =
    let within : k < length objects = within_get objects k o there in
    let at : get_or objects k blank ≡ o = same_Some (get_or objects k blank) o (sym (slice_get-get_or objects k blank within) ∙ there) in
    let ns : List ℕ = init_sizes objects in
    let ms : List ℕ = zero_sizes objects in
    let init_count : length ns ≡ length objects = length-map objects (λ (x : Object). length x.init_bytes) in
    let zero_count : length ms ≡ length objects = length-map objects (λ (x : Object). x.zero_bytes) in
    let init_size : get_or ns k 0 ≡ length o.init_bytes =
    get_or-map (λ (x : Object). length x.init_bytes) objects k blank 0 within ∙ ap (λ (x : Object). length x.init_bytes) at in
    let zero_size_is : get_or ms k 0 ≡ o.zero_bytes =
    get_or-map (λ (x : Object). x.zero_bytes) objects k blank 0 within ∙ ap (λ (x : Object). x.zero_bytes) at in
    let inits_in = start_reach 16 (got_bytes objects) ns k round_up_16 (omega arith) in
    let zeros_in = start_reach 16 0 ms k round_up_16 (omega arith) in
    let next : suc k ≡ k + 1 = omega arith in
    record {
      init_reach = omega arith;
      zero_reach = omega arith;
      init_next = λ more.
          let le = start_next 16 (got_bytes objects) ns k round_up_16 (omega arith) in
          let moved = ap (λ (m : ℕ). get_or (starts 16 (got_bytes objects) ns) m 0) next in omega arith;
      zero_next = λ more.
          let le = start_next 16 0 ms k round_up_16 (omega arith) in
          let moved = ap (λ (m : ℕ). get_or (starts 16 0 ms) m 0) next in omega arith;
    }

abbrev pub site_of : (objects : List Object) (k : ℕ) (o : Object) → IsValid o → IsSited objects k o → Room
site_of objects k o valid at = record {
  object = o;
  inits = init_at objects k;
  zeros = zero_at objects k;
  keep = valid.symbols;
  order = let reach = at.init_reach in omega arith;
}

-- how many of the objects from a number on cover an address
pub record CoverOnce (objects : List Object) (k : ℕ) (os : List Object) (a : ℕ) : Type 0 where
  pub once : covering a (spans_from objects k os) ≤ 1
  pub before_init : (k < length objects → a < init_at objects k) → covering a (spans_from objects k os) ≡ 0
  pub before_zero : ends 16 (got_bytes objects) (init_sizes objects) ≤ a → (k < length objects → a < zero_at objects k)
      → covering a (spans_from objects k os) ≡ 0

-- one object more in front
one_object : (objects : List Object) (k : ℕ) (o : Object) (os : List Object) (a : ℕ) → IsValid o → slice_get objects k ≡ Some o
    → CoverOnce objects (k + 1) os a → CoverOnce objects k (o ∷ os) a
one_object objects k o os a valid there rest =
    let at : IsSited objects k o = sited objects k o there in
    let w : Room = site_of objects k o valid at in
    let within : k < length objects = within_get objects k o there in
    let sum : covering a (spans_from objects k (o ∷ os)) ≡ covering a (filter_map (found_in w) o.tagged)
    + covering a (spans_from objects (k + 1) os) =
    covering-append a (object_spans (init_at objects k) (zero_at objects k) o) (spans_from objects (k + 1) os) in
    let own : covering a (filter_map (found_in w) o.tagged) ≤ 1 = once w a [] 0 o.tagged valid.tagged in
    let lies : 0 < covering a (filter_map (found_in w) o.tagged) → InSection w a = where_covered w a [] 0 o.tagged valid.tagged in
    let init_reach = at.init_reach in
    let zero_reach = at.zero_reach in
    let all = rest.once in
    record {
      once = elim (cases_lt 0 (covering a (filter_map (found_in w) o.tagged))) [
        | inl some ↦ elim (lies some) [
          | inl r ↦
              let high = r.1 in
              let none = rest.before_init (λ more. let le = at.init_next more in omega arith) in omega arith
          | inr r ↦
              let low = r.0 in
              let high = r.1 in
              let none = rest.before_zero (omega arith) (λ more. let le = at.zero_next more in omega arith) in omega arith
        ]
        | inr none ↦ omega arith
      ];
      before_init = λ early.
          let lt = early within in
          let none = rest.before_init (λ more. let le = at.init_next more in omega arith) in
          elim (cases_lt 0 (covering a (filter_map (found_in w) o.tagged))) [
            | inl some ↦ elim (lies some) [
              | inl r ↦ let low = r.0 in absurd (omega arith)
              | inr r ↦ let low = r.0 in absurd (omega arith)
            ]
            | inr few ↦ omega arith
          ];
      before_zero = λ late early.
          let lt = early within in
          let none = rest.before_zero late (λ more. let le = at.zero_next more in omega arith) in
          elim (cases_lt 0 (covering a (filter_map (found_in w) o.tagged))) [
            | inl some ↦ elim (lies some) [
              | inl r ↦ let high = r.1 in absurd (omega arith)
              | inr r ↦ let low = r.0 in absurd (omega arith)
            ]
            | inr few ↦ omega arith
          ];
    }

-- objects that are some of a list's from a number on
abbrev pub AreFrom : List Object → ℕ → List Object → Type 0
AreFrom objects k os = (i : ℕ) (o : Object) → slice_get os i ≡ Some o → slice_get objects (k + i) ≡ Some o

pub from_first : (objects : List Object) (k : ℕ) (o : Object) (os : List Object) → AreFrom objects k (o ∷ os) → slice_get objects k ≡ Some o
from_first objects k o os h = ap (slice_get objects) (omega arith) ∙ h 0 o refl

pub from_rest : (objects : List Object) (k : ℕ) (o : Object) (os : List Object) → AreFrom objects k (o ∷ os) → AreFrom objects (k + 1) os
from_rest objects k o os h i x is = ap (slice_get objects) (omega arith) ∙ h (suc i) x is

pub covered_once : (objects : List Object) (k : ℕ) (os : List Object) (a : ℕ) → AllByRecursion IsValid os → AreFrom objects k os
    → CoverOnce objects k os a
covered_once objects k [] a valid h = record { once = omega arith; before_init = λ e. refl; before_zero = λ l e. refl }
covered_once objects k (o ∷ os) a valid h =
    one_object objects k o os a valid.0 (from_first objects k o os h)
    (covered_once objects (k + 1) os a valid.1 (from_rest objects k o os h))
