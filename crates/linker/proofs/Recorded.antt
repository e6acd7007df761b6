-- The places of an image that hold addresses: the words of the table, and the places of the filled data.
use Rattle.std.proofs.Common.{◌≡◌, ℕ, zero, suc, ◌+◌, ◌*◌, ◌<◌, ◌≤◌, ◌^◌, ◌%◌, Bool, true, false, not, ◌&&◌, nat_le, nat_lt, ◌==◌}
use Rattle.std.proofs.Common.{List, [], ◌∷◌, ◌++◌, length, drop, map, filter, filter_map, cond, Option, Some, None, get_or, slice_get}
use Rattle.std.proofs.Common.{refl, sym, ap, ◌∙◌, arith}
use Rattle.std.proofs.Common.{append_assoc}
use Rattle.std.specs.Prelude.{if◌then◌else◌}
use Rattle.std.specs.Int.{w64, cast_signed}
use Rattle.std.specs.List.{AllByRecursion, cons_option}
use Rattle.std.proofs.lemmas.Bool.{leb-true, and_parts}
use Rattle.std.proofs.lemmas.List.{drop_more, length-map, get_or-map}
use Rattle.std.proofs.lemmas.Option.{none-some, same_Some, slice_get-get_or}
use Rattle.mt_base.specs.Wrapping.{wrap}
use Rattle.mt_base.specs.Granules.{round16}
use Rattle.elf_obj.specs.declared.parts.Reloc.{Reloc}
use Rattle.elf_obj.specs.Object.{Object}
use Rattle.elf_obj.specs.Rules.{is_field, relocs_keep, reloc_rule, data_reloc_keeps, is_got_kind}
use Rattle.elf_obj.specs.declared.section.Section.{Section}
use Rattle.elf_obj.specs.Sections.{sections, sizes_of, contents_end}
use Rattle.elf_obj.specs.ObjectFile.{IsValid}
use Rattle.elf_obj.specs.Laws.Ends.{contents_grow, valid_end}
use Rattle.elf_image.specs.declared.parts.RelativeReloc.{RelativeReloc}
use Rattle.linker.specs.declared.names.Numbers.{Numbers}
use Rattle.linker.specs.declared.bases.Bases.{Bases}
use Rattle.linker.specs.Names.{NumberedSymbol, is_same, target}
use Rattle.linker.specs.Sections.{each_from}
use Rattle.linker.specs.Got.{used_by, uses_from, firsts, got}
use Rattle.linker.specs.Addresses.{symbol_address}
use Rattle.linker.specs.Relocations.{relative, got_reloc, data_reloc, data_relocs_from}
use Rattle.linker.specs.Known.{numbers_of, number_address}
use Rattle.linker.specs.Ready.{blank_symbol}
use Rattle.linker.proofs.Listed.{IsListed, target_listed, listed_address}

-- ---- facts on all elements

pub all_append : {A : Type 0} (P : A → Type 0) (xs ys : List A) → AllByRecursion P xs → AllByRecursion P ys → AllByRecursion P (xs ++ ys)
all_append P [] ys h g = g
all_append P (x ∷ xs) ys h g = (h.0, all_append P xs ys h.1 g)

all_filter : {A : Type 0} (P : A → Type 0) (p : A → Bool) (xs : List A) → AllByRecursion P xs → AllByRecursion P (filter p xs)
all_filter P p [] h = tt
all_filter P p (x ∷ xs) h = by_test (p x) (all_filter P p xs h.1)
  where
    by_test : (b : Bool) → AllByRecursion P (filter p xs) → AllByRecursion P (cond b (x ∷ filter p xs) (filter p xs))
    by_test true rest = (h.0, rest)
    by_test false rest = rest

pub all_at : {A : Type 0} (P : A → Type 0) (xs : List A) (i : ℕ) (d : A) → AllByRecursion P xs → i < length xs → P (get_or xs i d)
all_at P [] i d h lt = absurd (omega arith)
all_at P (x ∷ xs) zero d h lt = h.0
all_at P (x ∷ xs) (suc i) d h lt = all_at P xs i d h.1 (omega arith)

-- ---- the symbols of the table are listed

used_listed : (os : List Object) (k : ℕ) (o : Object) (r : Reloc) (e : NumberedSymbol) → slice_get os k ≡ Some o
    → used_by os k o.symbols r ≡ Some e
    → IsListed os e
used_listed os k o r e there h = by_test (is_got_kind r.kind) h
  where
    by_test : (b : Bool) → (if b then target os k o.symbols r.symbol else None) ≡ Some e → IsListed os e
    by_test true g = target_listed os k r.symbol o e there g
    by_test false g = absurd (none-some e g)

relocs_listed : (os : List Object) (k : ℕ) (o : Object) (rs : List Reloc) → slice_get os k ≡ Some o
    → AllByRecursion (IsListed os) (filter_map (used_by os k o.symbols) rs)
relocs_listed os k o [] there = tt
relocs_listed os k o (r ∷ rs) there = by_case (used_by os k o.symbols r) refl (relocs_listed os k o rs there)
  where
    by_case : (x : Option NumberedSymbol) → used_by os k o.symbols r ≡ x
        → AllByRecursion (IsListed os) (filter_map (used_by os k o.symbols) rs)
        → AllByRecursion (IsListed os) (cons_option x (filter_map (used_by os k o.symbols) rs))
    by_case None is rest = rest
    by_case (Some e) is rest = (used_listed os k o r e there is, rest)

uses_listed : (objects : List Object) (k : ℕ) (os : List Object)
    → ((i : ℕ) (o : Object) → slice_get os i ≡ Some o → slice_get objects (k + i) ≡ Some o)
    → AllByRecursion (IsListed objects) (uses_from objects k os)
uses_listed objects k [] h = tt
uses_listed objects k (o ∷ os) h =
    let here : slice_get objects k ≡ Some o = ap (slice_get objects) (omega arith) ∙ h 0 o refl in
    all_append (IsListed objects) (filter_map (used_by objects k o.symbols) o.text_relocs) (uses_from objects (k + 1) os)
    (relocs_listed objects k o o.text_relocs here)
    (uses_listed objects (k + 1) os (λ i x is. ap (slice_get objects) (omega arith) ∙ h (suc i) x is))

firsts_listed : (os : List Object) (es : List NumberedSymbol) → AllByRecursion (IsListed os) es → AllByRecursion (IsListed os) (firsts es)
firsts_listed os [] h = tt
firsts_listed os (e ∷ es) h = (h.0, all_filter (IsListed os) (λ f. not (is_same e f)) (firsts es) (firsts_listed os es h.1))

words_listed : (os : List Object) → AllByRecursion (IsListed os) (got os)
unfolding got
words_listed os = firsts_listed os (uses_from os 0 os) (uses_listed os 0 os (λ i o is. ap (slice_get os) (omega arith) ∙ is))

-- ---- the record of a word

pub word_record : (os : List Object) (bases : Bases) (keys : List Numbers) (i place address : ℕ) (n : Numbers) → i < length keys
    → keys ≡ map numbers_of (got os) → slice_get keys i ≡ Some n → address ≡ wrap 64 (number_address os bases n)
    → place ≡ bases.filled + 8 * i → relative place address ≡ got_reloc os bases i (get_or (got os) i blank_symbol)
word_record os bases keys i place address n lt is found at from =
    let e : NumberedSymbol = get_or (got os) i blank_symbol in
    let within : i < length (got os) = omega (arith, ap length is, length-map (got os) numbers_of) in
    let same : numbers_of e ≡ n =
    sym (get_or-map numbers_of (got os) i blank_symbol n within) ∙ ap (λ (l : List Numbers). get_or l i n) (sym is)
    ∙ same_Some (get_or keys i n) n (sym (slice_get-get_or keys i n lt) ∙ found) in
    let listed : number_address os bases n ≡ symbol_address os bases e =
    ap (number_address os bases) (sym same)
    ∙ listed_address os bases e (all_at (IsListed os) (got os) i blank_symbol (words_listed os) within) in
    let wrapped : wrap 64 address ≡ wrap 64 (symbol_address os bases e) =
    ap (wrap 64) (at ∙ ap (wrap 64) listed) ∙ twice (symbol_address os bases e) in
    (λ j. relative (from j) address) ∙ again (bases.filled + 8 * i) address (symbol_address os bases e) wrapped
  where
    twice : (m : ℕ) → wrap 64 (wrap 64 m) ≡ wrap 64 m
    twice m = omega arith

    again : (p a b : ℕ) → wrap 64 a ≡ wrap 64 b → relative p a ≡ relative p b
    again p a b e = ap (λ (m : ℕ). record { place = p; addend = cast_signed w64 m }) e

pub no_word : (keys : List Numbers) (i : ℕ) → i < length keys → None ≡ slice_get keys i → ⊥
no_word keys i lt h =
    let none : Numbers = record { object = 0; number = 0 } in
    none-some (get_or keys i none) (h ∙ slice_get-get_or keys i none lt)

-- ---- what is left of a list, one element on

pub each_left : {A B : Type 0} (f : ℕ → A → B) (xs : List A) (i : ℕ) (d : A) (out : List B) → i < length xs
    → (out ++ f i (get_or xs i d) ∷ []) ++ each_from (i + 1) f (drop (i + 1) xs) ≡ out ++ each_from i f (drop i xs)
each_left {A} {B} f xs i d out lt =
    append_assoc out (f i (get_or xs i d) ∷ []) (each_from (i + 1) f (drop (i + 1) xs))
    ∙ sym (ap (λ (l : List A). out ++ each_from i f l) (drop_more xs i d lt))

pub map_left : {A B : Type 0} (f : A → B) (xs : List A) (i : ℕ) (d : A) (out : List B) → i < length xs
    → (out ++ f (get_or xs i d) ∷ []) ++ map f (drop (i + 1) xs) ≡ out ++ map f (drop i xs)
map_left {A} {B} f xs i d out lt =
    append_assoc out (f (get_or xs i d) ∷ []) (map f (drop (i + 1) xs)) ∙ sym (ap (λ (l : List A). out ++ map f l) (drop_more xs i d lt))

-- ---- offsets are within the section

reloc_within : (bytes count least : ℕ) (r : Reloc) → data_reloc_keeps bytes count least r ≡ true → r.offset + 8 ≤ bytes
unfolding data_reloc_keeps
reloc_within bytes count least r h =
    let field = (and_parts (r.kind == 257) (is_field 8 bytes least r.offset)
    (and_parts (r.kind == 257 && is_field 8 bytes least r.offset) (nat_lt r.symbol count) h).0).1 in
    let fits = and_parts ((r.offset % 8 == 0) && nat_le (r.offset + 8) bytes) (nat_le least r.offset) field in
    leb-true (r.offset + 8) bytes (and_parts (r.offset % 8 == 0) (nat_le (r.offset + 8) bytes) fits.0).1

contents_reach : (at : ℕ) (ss : List Section) (i : ℕ) (s : Section) → slice_get ss i ≡ Some s → s.bytes ≤ contents_end at ss
contents_reach at [] i s h = cc
contents_reach at (x ∷ xs) zero s h =
    let same : x ≡ s = cc in
    omega (arith, ap (λ (t : Section). t.bytes) same, contents_grow (round16 at + x.bytes) xs)
contents_reach at (x ∷ xs) (suc i) s h = contents_reach (round16 at + x.bytes) xs i s h

below : (n e : ℕ) → n ≤ e → round16 e + 768 < 2 ^ 63 → n < 2 ^ 63
below n e le lt = omega arith

init_near : (o : Object) → IsValid o → length o.init_bytes < 2 ^ 63
init_near o valid = below _ _ (contents_reach 64 (sections (sizes_of o)) 2 _ refl) (valid_end o valid)

relocs_near : (bytes count least : ℕ) (rs : List Reloc) → bytes < 2 ^ 63 → relocs_keep (reloc_rule false bytes count) least rs ≡ true
    → AllByRecursion (λ r. r.offset < 2 ^ 63) rs
relocs_near bytes count least [] small h = tt
relocs_near bytes count least (r ∷ rs) small h =
    let parts = and_parts (data_reloc_keeps bytes count least r) (relocs_keep (reloc_rule false bytes count) (r.offset + 1) rs) h in
    let le = reloc_within bytes count least r parts.0 in
    (omega arith, relocs_near bytes count (r.offset + 1) rs small parts.1)

-- those of a valid object
pub offsets_near : (o : Object) → IsValid o → AllByRecursion (λ r. r.offset < 2 ^ 63) o.init_relocs
offsets_near o valid =
    relocs_near (length o.init_bytes) (length o.symbols) 0 o.init_relocs (init_near o valid) valid.init_relocs

-- ---- object by object

pub places_left : (os : List Object) (bases : Bases) (k : ℕ) (o : Object) (left : List Object) (out : List RelativeReloc)
    → (out ++ map (data_reloc os bases k o) o.init_relocs) ++ data_relocs_from os bases (k + 1) left
    ≡ out ++ data_relocs_from os bases k (o ∷ left)
places_left os bases k o left out =
    append_assoc out (map (data_reloc os bases k o) o.init_relocs) (data_relocs_from os bases (k + 1) left)
