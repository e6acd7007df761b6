-- Which numbers of descriptor bytes agree with themselves, by the spans of the tagged objects.
use Rattle.std.proofs.Common.{◌≡◌, ℕ, zero, suc, ◌+◌, ◌*◌, ◌%◌, ◌≤◌, ◌==◌, Bool, true, false, cond}
use Rattle.std.proofs.Common.{List, [], ◌∷◌, map, get_or, refl, sym, ap, subst, ◌∙◌, arith}
use Rattle.std.specs.Prelude.{IsSortedByKey}
use Rattle.std.specs.Ordering.{nat_cmp, is_lt}
use Rattle.std.specs.declared.cmp.Ordering.TheVariants.{Less, Equal, Greater}
use Rattle.std.proofs.lemmas.Bool.{le-ltb}
use Rattle.std.proofs.lemmas.List.{length-replicate}
use Rattle.mt_base.specs.Granules.{round16}
use Rattle.elf_obj.specs.Object.{Object}
use Rattle.elf_image.specs.Places.{round_page, file_end}
use Rattle.memtag_desc.specs.declared.interval.Interval.{Interval}
use Rattle.memtag_desc.specs.Descriptors.{end_of}
use Rattle.linker.specs.declared.bases.Bases.{Bases}
use Rattle.linker.specs.declared.spans.Span.{Span}
use Rattle.linker.specs.declared.totals.Totals.{Totals}
use Rattle.linker.specs.Addresses.{bases_of}
use Rattle.linker.specs.Data.{filled_size, zero_size}
use Rattle.linker.specs.Tagged.{tagged_from, AreTagged, SpellsFrom, sized, AgreesWithItself}
use Rattle.linker.specs.Totals.{entry_count, totals_of, rodata_by, code_by, filled_by}
use Rattle.linker.specs.Spans.{at_place, AreSpans, HasLength}
use Rattle.linker.specs.Laws.Places.{filled_is}
use Rattle.linker.specs.Laws.Spelled.{AreSpread, spelled_spread, apart_spread}
use Rattle.linker.specs.Laws.OneOrder.{spread_order}

-- ---- places by the number of bytes

round16_grows : (a b : ℕ) → a ≤ b → round16 a ≤ round16 b
round16_grows a b le = omega arith

round_page_grows : (a b : ℕ) → a ≤ b → round_page a ≤ round_page b
round_page_grows a b le = omega arith

all_numbered_grow : (a b : ℕ) → a ≤ b → entry_count a ≤ entry_count b
all_numbered_grow zero zero le = omega arith
all_numbered_grow zero (suc b) le = omega arith
all_numbered_grow (suc a) zero le = absurd (omega arith)
all_numbered_grow (suc a) (suc b) le = omega arith

rodata_grows : (t : Totals) (a b : ℕ) → a ≤ b → rodata_by t a ≤ rodata_by t b
unfolding rodata_by
rodata_grows t a b le = round16_grows (0x140 + 24 * t.relocs + a) (0x140 + 24 * t.relocs + b) (omega arith)

code_grows : (t : Totals) (a b : ℕ) → a ≤ b → code_by t a ≤ code_by t b
unfolding code_by
code_grows t a b le =
    let r = rodata_grows t a b le in round_page_grows (rodata_by t a + t.rodata) (rodata_by t b + t.rodata) (omega arith)

-- the filled data begins no earlier after more bytes
pub filled_grows : (t : Totals) (a b : ℕ) → a ≤ b → filled_by t a ≤ filled_by t b
unfolding filled_by
filled_grows t a b le =
    let c = code_grows t a b le in
    let p = round_page_grows (code_by t a + 4 * t.words) (code_by t b + 4 * t.words) (omega arith) in
    let e = all_numbered_grow a b le in
    let before : ℕ = round_page (code_by t a + 4 * t.words) + 16 * entry_count a in
    let after : ℕ = round_page (code_by t b + 4 * t.words) + 16 * entry_count b in
    round16_grows before after (omega arith)

pub filled_whole : (t : Totals) (n : ℕ) → filled_by t n % 16 ≡ 0
unfolding filled_by
filled_whole t n = omega arith

-- the zero bytes follow the filled data
pub zeros_follow : (objects : List Object) (n : ℕ)
    → (bases_of (sized objects n)).zeros ≡ (bases_of (sized objects n)).filled + filled_size objects
unfolding file_end sized
zeros_follow objects n = rw (length-replicate {A = ℕ} (filled_size objects) 0) refl

-- ---- spans in order

less_is : (a b : ℕ) → b ≤ a → is_lt (nat_cmp a b) ≡ false
less_is a b le = ap (λ (t : Bool). is_lt (cond t Less (cond (a == b) Equal Greater))) (le-ltb a b le) ∙ by_test (a == b)
  where
    by_test : (t : Bool) → is_lt (cond t Equal Greater) ≡ false
    by_test true = refl
    by_test false = refl

spread_sorted : (from : ℕ) (is : List Interval) → AreSpread from is → IsSortedByKey (λ (i : Interval). i.start) nat_cmp is
spread_sorted from [] h k d low high = absurd (omega arith)
spread_sorted from (i ∷ []) h k d low high = absurd (omega arith)
spread_sorted from (i ∷ j ∷ is) h zero d low high = let start = h.2.1 in less_is j.start i.start (omega arith)
spread_sorted from (i ∷ j ∷ is) h (suc k) d low high =
    let next : suc k + 1 ≡ suc (k + 1) = omega arith in
    ap (λ (m : ℕ). is_lt (nat_cmp (get_or (i ∷ j ∷ is) m d).start (get_or (i ∷ j ∷ is) (suc k) d).start)) next
    ∙ spread_sorted (end_of i) (j ∷ is) h.2 k d (omega arith) (omega arith)

-- they are those of the tagged objects where the filled data begins at its place
pub spans_tagged : (objects : List Object) (spans : List Span) (bases : Bases) → bases.zeros ≡ bases.filled + filled_size objects
    → AreSpans objects spans → AreTagged objects bases (map (at_place bases.filled) spans)
spans_tagged objects spans bases follow h = record {
  all = h.all bases follow;
  in_order = spread_sorted 0 (map (at_place bases.filled) spans)
      (apart_spread bases.filled 0 0 (filled_size objects + zero_size objects) spans (omega arith) h.apart);
}

-- ---- numbers that agree

-- how many bytes spell the spans, after so many
abbrev pub SpellsAfter : List Object → List Span → ℕ → ℕ → Type 0
SpellsAfter objects spans n m = HasLength (SpellsFrom 0 (map (at_place (filled_by (totals_of objects) n)) spans)) m

pub agrees : (objects : List Object) (spans : List Span) (n : ℕ) → AreSpans objects spans → SpellsAfter objects spans n n
    → AgreesWithItself objects n
agrees objects spans n h spelled =
    let bases : Bases = bases_of (sized objects n) in
    let place : filled_by (totals_of objects) n ≡ bases.filled = sym (filled_is objects n) in
    record {
      intervals = map (at_place bases.filled) spans;
      bytes = spelled.bytes;
      tagged = spans_tagged objects spans bases (zeros_follow objects n) h;
      spelled = subst (λ (p : ℕ). SpellsFrom 0 (map (at_place p) spans) spelled.bytes) place spelled.is;
      len = spelled.len;
    }

pub agreed : (objects : List Object) (spans : List Span) (n : ℕ) → AreSpans objects spans → AgreesWithItself objects n
    → SpellsAfter objects spans n n
agreed objects spans n h g =
    let bases : Bases = bases_of (sized objects n) in
    let follow = zeros_follow objects n in
    let place : bases.filled ≡ filled_by (totals_of objects) n = filled_is objects n in
    let same : g.intervals ≡ map (at_place bases.filled) spans =
    spread_order (tagged_from objects bases 0 objects) g.intervals (map (at_place bases.filled) spans) g.tagged.all (h.all bases follow)
    (spelled_spread 0 g.intervals g.bytes g.spelled)
    (apart_spread bases.filled 0 0 (filled_size objects + zero_size objects) spans (omega arith) h.apart) in
    record {
      bytes = g.bytes;
      is = subst (λ (l : List Interval). SpellsFrom 0 l g.bytes) (same ∙ ap (λ (p : ℕ). map (at_place p) spans) place) g.spelled;
      len = g.len;
    }
