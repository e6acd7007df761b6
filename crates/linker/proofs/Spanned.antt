-- The spans of the tagged objects of valid objects, sorted.
use Rattle.std.proofs.Common.{◌≡◌, ℕ, ◌+◌, ◌%◌, ◌<◌, ◌≤◌, Bool, true, false, cond, List, [], ◌∷◌, ◌++◌, length, map, filter_map}
use Rattle.std.proofs.Common.{get_or, Option, slice_get, refl, sym, ap, subst, ◌∙◌, arith, inl, inr}
use Rattle.std.specs.Prelude.{IsPermutation, if◌then◌else◌}
use Rattle.std.specs.List.{AllByRecursion, cons_option}
use Rattle.std.specs.List.Sorted.{IsNonDecreasingBy}
use Rattle.std.specs.Option.{option_map}
use Rattle.std.proofs.lemmas.Bool.{le-leb, lt-ltb, cases_lt}
use Rattle.std.proofs.lemmas.List.{map-append}
use Rattle.std.proofs.lemmas.List.Elements.{All-from_recursion, recursion_from_All}
use Rattle.std.proofs.lemmas.List.Recursion.{is_sum_by}
use Rattle.std.proofs.lemmas.List.Sorted.{All-permutation, sum_by-IsPermutation, IsPermutation-map, IsNonDecreasingBy-drop}
use Rattle.elf_obj.specs.declared.parts.Home.{Home}
use Rattle.elf_obj.specs.declared.parts.Home.TheVariants.{Undef, Text, Rodata, Init, Zero}
use Rattle.elf_obj.specs.declared.parts.Symbol.{Symbol}
use Rattle.elf_obj.specs.Object.{Object}
use Rattle.elf_obj.specs.ObjectFile.{IsValid}
use Rattle.elf_obj.specs.Records.{home_number}
use Rattle.elf_obj.specs.Sections.{sizes_of}
use Rattle.elf_obj.specs.Rules.{symbols_keep, tags_keep}
use Rattle.memtag_desc.specs.declared.interval.Interval.{Interval}
use Rattle.linker.specs.declared.bases.Bases.{Bases}
use Rattle.linker.specs.declared.spans.Span.{Span}
use Rattle.linker.specs.Sections.{starts, init_sizes, zero_sizes}
use Rattle.linker.specs.Got.{got_bytes}
use Rattle.linker.specs.Addresses.{section_address}
use Rattle.linker.specs.Data.{filled_size, zero_size}
use Rattle.linker.specs.Tagged.{interval_of, tagged_from}
use Rattle.linker.specs.Spans.{at_place, is_init, span_of, object_spans, init_at, zero_at, spans_from, AreApart, AreSpans}
use Rattle.linker.specs.Laws.Starting.{start_whole}
use Rattle.linker.proofs.Recorded.{all_append}
use Rattle.linker.proofs.TaggedSymbols.{IsPlaced, IsTag, tag_is, tags_left}
use Rattle.linker.proofs.Covered.{covers, covering, Room, IsGood, good_object, IsSited, sited, site_of, AreFrom, from_first, from_rest}
use Rattle.linker.proofs.Covered.{covered_once}

-- ---- all spans are good

good_from : (objects : List Object) (k : ℕ) (os : List Object) → AllByRecursion IsValid os → AreFrom objects k os
    → AllByRecursion (IsGood (filled_size objects + zero_size objects)) (spans_from objects k os)
good_from objects k [] valid h = tt
good_from objects k (o ∷ os) valid h =
    let end : ℕ = filled_size objects + zero_size objects in
    let at : IsSited objects k o = sited objects k o (from_first objects k o os h) in
    let w : Room = site_of objects k o valid.0 at in
    let init_reach = at.init_reach in
    let init_whole : init_at objects k % 16 ≡ 0 = start_whole (got_bytes objects) (init_sizes objects) k in
    let zero_whole : get_or (starts 16 0 (zero_sizes objects)) k 0 % 16 ≡ 0 = start_whole 0 (zero_sizes objects) k in
    all_append (IsGood end) (object_spans (init_at objects k) (zero_at objects k) o) (spans_from objects (k + 1) os)
    (good_object w end init_whole (omega arith) (omega arith) at.zero_reach [] 0 o.tagged valid.0.tagged)
    (good_from objects (k + 1) os valid.1 (from_rest objects k o os h))

-- ---- the intervals of an image

-- a tagged symbol lies in no other section
wrong : (s : Symbol) (home : Home) (m : ℕ) → s.home ≡ home → home_number s.home ≡ (if is_init s.home then 3 else 4) → home_number home ≡ m
    → m < 3 → ⊥
wrong s home m is e number low =
    by_test (is_init home) (sym number ∙ subst (λ (x : Home). home_number x ≡ (if is_init x then 3 else 4)) is e)
  where
    by_test : (b : Bool) → m ≡ (if b then 3 else 4) → ⊥
    by_test true g = omega arith
    by_test false g = omega arith

-- the interval of a placed symbol is its span at the place of the filled data
interval_is : (objects : List Object) (bases : Bases) (k n : ℕ) (o : Object) (s : Symbol)
    → bases.zeros ≡ bases.filled + filled_size objects → IsPlaced (sizes_of o) s
    → at_place bases.filled (span_of (init_at objects k) (zero_at objects k) s) ≡ interval_of objects bases k n s
interval_is objects bases k n o s follow p = by_home s.home refl p.number
  where
    place : (home : Home) → s.home ≡ home
        → bases.filled + ((if is_init home then init_at objects k else zero_at objects k) + s.value)
        ≡ section_address objects bases k home + s.value
        → at_place bases.filled (span_of (init_at objects k) (zero_at objects k) s) ≡ interval_of objects bases k n s
    place home is e =
        let P : Home → Type 0 = λ x.
        bases.filled + ((if is_init x then init_at objects k else zero_at objects k) + s.value)
        ≡ section_address objects bases k x + s.value in
        let start = subst P (sym is) e in λ i. record { start = start i; bytes = s.size }

    by_home : (home : Home) → s.home ≡ home → home_number s.home ≡ (if is_init s.home then 3 else 4)
        → at_place bases.filled (span_of (init_at objects k) (zero_at objects k) s) ≡ interval_of objects bases k n s
    by_home Init is e = place Init is (omega arith)
    by_home Zero is e = place Zero is (omega arith)
    by_home Undef is e = absurd (wrong s Undef 0 is e refl (omega arith))
    by_home Text is e = absurd (wrong s Text 1 is e refl (omega arith))
    by_home Rodata is e = absurd (wrong s Rodata 2 is e refl (omega arith))

object_tagged : (objects : List Object) (bases : Bases) (k : ℕ) (o : Object) → bases.zeros ≡ bases.filled + filled_size objects
    → symbols_keep (sizes_of o) [] o.symbols ≡ true → (earlier : List ℕ) (least : ℕ) (ts : List ℕ)
    → tags_keep o.symbols earlier least ts ≡ true
    → map (at_place bases.filled)
    (filter_map (λ n. option_map (span_of (init_at objects k) (zero_at objects k)) (slice_get o.symbols n)) ts)
    ≡ filter_map (λ n. option_map (interval_of objects bases k n) (slice_get o.symbols n)) ts
object_tagged objects bases k o follow keep earlier least [] h = refl
object_tagged objects bases k o follow keep earlier least (t ∷ ts) h =
    let tag : IsTag (sizes_of o) o.symbols earlier t = tag_is (sizes_of o) o.symbols earlier least t ts keep h in
    let f : ℕ → Option Span = λ n. option_map (span_of (init_at objects k) (zero_at objects k)) (slice_get o.symbols n) in
    let g : ℕ → Option Interval = λ n. option_map (interval_of objects bases k n) (slice_get o.symbols n) in
    let rest = object_tagged objects bases k o follow keep (earlier ++ t ∷ []) (t + 1) ts (tags_left o.symbols earlier least t ts h) in
    ap (λ (x : Option Symbol). map (at_place bases.filled)
    (cons_option (option_map (span_of (init_at objects k) (zero_at objects k)) x) (filter_map f ts))) tag.there
    ∙ (λ i. interval_is objects bases k t o tag.symbol follow tag.place i ∷ rest i)
    ∙ sym (ap (λ (x : Option Symbol). cons_option (option_map (interval_of objects bases k t) x) (filter_map g ts)) tag.there)

tagged_is : (objects : List Object) (bases : Bases) (k : ℕ) (os : List Object) → bases.zeros ≡ bases.filled + filled_size objects
    → AllByRecursion IsValid os → map (at_place bases.filled) (spans_from objects k os) ≡ tagged_from objects bases k os
tagged_is objects bases k [] follow valid = refl
tagged_is objects bases k (o ∷ os) follow valid =
    let here = object_tagged objects bases k o follow valid.0.symbols [] 0 o.tagged valid.0.tagged in
    let rest = tagged_is objects bases (k + 1) os follow valid.1 in
    map-append (at_place bases.filled) (object_spans (init_at objects k) (zero_at objects k) o) (spans_from objects (k + 1) os)
    ∙ (λ i. here i ++ rest i)

-- ---- sorted

-- sorted spans of which each address is in one at most are apart
apart_sorted : (end from : ℕ) (ss : List Span) → AllByRecursion (IsGood end) ss → IsNonDecreasingBy (λ (s : Span). s.start) ss
    → ((a : ℕ) → covering a ss ≤ 1) → (0 < length ss → from ≤ (get_or ss 0 (record { start = 0; bytes = 0 })).start) → AreApart from end ss
apart_sorted end from [] good rise once first = tt
apart_sorted end from (s ∷ []) good rise once first =
    (good.0.0, good.0.1, good.0.2, first (omega arith), good.0.3, tt)
apart_sorted end from (s ∷ t ∷ ss) good rise once first =
    let none : Span = record { start = 0; bytes = 0 } in
    let le : s.start ≤ t.start = rise 0 1 none (omega arith) (omega arith) in
    let some = good.1.0.2 in
    let apart : s.start + s.bytes ≤ t.start = elim (cases_lt t.start (s.start + s.bytes)) [
      | inl lt ↦
          let one : covers t.start s ≡ true = rw (le-leb s.start t.start le) (lt-ltb t.start (s.start + s.bytes) lt) in
          let two : covers t.start t ≡ true =
          rw (le-leb t.start t.start (omega arith)) (lt-ltb t.start (t.start + t.bytes) (omega arith)) in
          let both : covering t.start (s ∷ t ∷ ss) ≡ 1 + (1 + covering t.start ss) =
          λ i. cond (one i) 1 0 + (cond (two i) 1 0 + covering t.start ss) in
          let few = once t.start in absurd (omega arith)
      | inr ge ↦ ge
    ] in (
      good.0.0,
      good.0.1,
      good.0.2,
      first (omega arith),
      good.0.3,
      apart_sorted end (s.start + s.bytes) (t ∷ ss) good.1 (IsNonDecreasingBy-drop (λ (s : Span). s.start) 1 (s ∷ t ∷ ss) rise)
          (λ a. let few = once a in by_test (covers a s) few) (λ more. apart),
    )
  where
    by_test : {m : ℕ} (b : Bool) → cond b 1 0 + m ≤ 1 → m ≤ 1
    by_test true h = omega arith
    by_test false h = omega arith

same_cover : (a : ℕ) (xs ys : List Span) → IsPermutation xs ys → covering a ys ≡ covering a xs
same_cover a xs ys h =
    let f : Span → ℕ = λ s. cond (covers a s) 1 0 in
    is_sum_by (covering a) f refl (λ s ss. refl) ys ∙ sum_by-IsPermutation f xs ys h ∙ sym (is_sum_by (covering a) f refl (λ s ss. refl) xs)

pub sorted_spans : (objects : List Object) (xs ys : List Span) → AllByRecursion IsValid objects → xs ≡ spans_from objects 0 objects
    → IsPermutation xs ys → IsNonDecreasingBy (λ (s : Span). s.start) ys → AreSpans objects ys
sorted_spans objects xs ys valid is h rise =
    let P : List Span → Type 0 = λ l. IsPermutation l ys in
    let perm : IsPermutation (spans_from objects 0 objects) ys = subst P is h in
    let end : ℕ = filled_size objects + zero_size objects in
    let all : AreFrom objects 0 objects = λ i o there. ap (slice_get objects) (omega arith) ∙ there in
    let good = recursion_from_All (IsGood end) ys
    (All-permutation (IsGood end) (spans_from objects 0 objects) ys perm
    (All-from_recursion (IsGood end) (spans_from objects 0 objects) (good_from objects 0 objects valid all))) in
    record {
      all = λ bases follow.
          subst (λ (l : List Interval). IsPermutation l (map (at_place bases.filled) ys)) (tagged_is objects bases 0 objects follow valid)
          (IsPermutation-map (at_place bases.filled) (spans_from objects 0 objects) ys perm);
      apart = apart_sorted end 0 ys good rise
          (λ a.
          let few = (covered_once objects 0 objects a valid all).once in
          omega (arith, same_cover a (spans_from objects 0 objects) ys perm)) (λ some. omega arith);
    }
