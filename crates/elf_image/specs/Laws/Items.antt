-- The words, relocations and dynamic entries that stand in a file.
use Rattle.std.proofs.Common.{◌≡◌, ℕ, zero, suc, ◌+◌, ◌*◌, ◌^◌, ◌≤◌, ◌<◌, List, [], ◌∷◌, ◌++◌, length, take, drop, refl, sym, ap, ◌∙◌}
use Rattle.std.proofs.Common.{subst, arith, drop-drop, drop_at, take_at}
use Rattle.std.specs.Prelude.{true, ◌==◌}
use Rattle.std.specs.List.{flat_map, AllByRecursion}
use Rattle.std.specs.Int.{w64, cast_signed}
use Rattle.std.proofs.Math.Facts.{sfits_to_z}
use Rattle.std.proofs.Common.{Fits, append_assoc, add_assoc}
use Rattle.std.proofs.lemmas.Bool.{eq-eqb, eqb-true}
use Rattle.std.proofs.lemmas.List.{append-nil}
use Rattle.elf_base.specs.declared.dynamic.Dyn.{Dyn}
use Rattle.elf_base.specs.Field.{Field, number, signed, bytes_of, field_bytes, StandsAt}
use Rattle.elf_base.specs.Layout.{word_bytes}
use Rattle.elf_base.specs.Place.{number_at}
use Rattle.elf_base.specs.Records.{dyn_fields}
use Rattle.elf_base.specs.Standing.{dyn_at}
use Rattle.elf_base.specs.Laws.Lengths.{IsBytes, length-dyn}
use Rattle.elf_base.specs.Laws.Reads.{field_bytes-read_like, fields_like}
use Rattle.elf_base.specs.Laws.Standing.{stands, take-add, number_fits}
use Rattle.elf_base.specs.Laws.RecordsStand.{fields_again, dyn_again}
use Rattle.elf_base.specs.Laws.Tests.{both, both_hold}
use Rattle.elf_image.specs.declared.parts.RelativeReloc.{RelativeReloc}
use Rattle.elf_image.specs.Faults.{are_relative}
use Rattle.elf_image.specs.Pieces.{reloc_bytes, dyn_bytes, entries_bytes}
use Rattle.elf_image.specs.Ranges.{RelocFits}
use Rattle.elf_image.specs.Laws.OneImage.{EntryFits}
use Rattle.elf_image.specs.Laws.Whole.{length-reloc_bytes}

-- so many words from a place on
abbrev pub words_at : ℕ → ℕ → List ℕ → List ℕ
words_at zero at file = []
words_at (suc count) at file = number_at 4 at file ∷ words_at count (at + 4) file

-- a relocation, and so many from a place on
abbrev pub reloc_at : ℕ → List ℕ → RelativeReloc
reloc_at at file = record { place = number_at 8 at file; addend = cast_signed w64 (number_at 8 (at + 16) file) }

abbrev pub relocs_at : ℕ → ℕ → List ℕ → List RelativeReloc
relocs_at zero at file = []
relocs_at (suc count) at file = reloc_at at file ∷ relocs_at count (at + 24) file

-- ---- as many as are asked for, each within its range

pub length-words_at : (n at : ℕ) (file : List ℕ) → length (words_at n at file) ≡ n
length-words_at zero at file = refl
length-words_at (suc n) at file = omega (arith, length-words_at n (at + 4) file)

pub length-relocs_at : (n at : ℕ) (file : List ℕ) → length (relocs_at n at file) ≡ n
length-relocs_at zero at file = refl
length-relocs_at (suc n) at file = omega (arith, length-relocs_at n (at + 24) file)

pub words_fit : (n at : ℕ) (file : List ℕ) → IsBytes file → AllByRecursion (λ w. w < 2 ^ 32) (words_at n at file)
words_fit zero at file fits = tt
words_fit (suc n) at file fits =
    let low : number_at 4 at file < 2 ^ 32 = number_fits 4 at file fits in
    (low, words_fit n (at + 4) file fits)

pub relocs_fit : (n at : ℕ) (file : List ℕ) → IsBytes file → AllByRecursion RelocFits (relocs_at n at file)
relocs_fit zero at file fits = tt
relocs_fit (suc n) at file fits =
    let place : number_at 8 at file < 2 ^ 64 = number_fits 8 at file fits in
    let low : number_at 8 (at + 16) file < 2 ^ 64 = number_fits 8 (at + 16) file fits in
    let whole : Fits w64 (number_at 8 (at + 16) file) = record { fits = low } in
    (record { place = place; addend = sfits_to_z whole }, relocs_fit n (at + 24) file fits)

-- ---- their bytes are those that stand there

word_taken : (at : ℕ) (file : List ℕ) → IsBytes file → at + 4 ≤ length file → word_bytes (number_at 4 at file) ≡ take 4 (drop at file)
word_taken at file fits within = append-nil (field_bytes (number 4 (number_at 4 at file)))
    ∙ field_bytes-read_like (number 4 0) at file fits within

one_more : (n at step : ℕ) (file first rest : List ℕ) → first ≡ take step (drop at file) → rest ≡ take (step * n) (drop (at + step) file)
    → first ++ rest ≡ take (step * suc n) (drop at file)
one_more n at step file first rest h g =
    let total : step * suc n ≡ step + step * n = omega arith in
    let moved : drop step (drop at file) ≡ drop (at + step) file = drop-drop step at file in
    ap (λ (l : List ℕ). l ++ rest) h ∙ ap (λ (l : List ℕ). take step (drop at file) ++ l) (g ∙ ap (take (step * n)) (sym moved))
    ∙ sym (take-add step (step * n) (drop at file)) ∙ ap (λ (k : ℕ). take k (drop at file)) (sym total)

nothing : (step at : ℕ) (file : List ℕ) → [] ≡ take (step * 0) (drop at file)
nothing step at file = let none : step * 0 ≡ 0 = omega arith in rw none refl

pub words_taken : (n at : ℕ) (file : List ℕ) → IsBytes file → at + 4 * n ≤ length file
    → flat_map word_bytes (words_at n at file) ≡ take (4 * n) (drop at file)
words_taken zero at file fits within = nothing 4 at file
words_taken (suc n) at file fits within =
    one_more n at 4 file (word_bytes (number_at 4 at file)) (flat_map word_bytes (words_at n (at + 4) file))
    (word_taken at file fits (omega arith)) (words_taken n (at + 4) file fits (omega arith))

abbrev rela_like : ℕ → List ℕ → List Field
rela_like at file = number 8 (number_at 8 at file) ∷ number 8 1027 ∷ signed (cast_signed w64 (number_at 8 (at + 16) file)) ∷ []

reloc_taken : (at : ℕ) (file : List ℕ) → IsBytes file → at + 24 ≤ length file → number_at 8 (at + 8) file ≡ 1027
    → reloc_bytes (reloc_at at file) ≡ take 24 (drop at file)
reloc_taken at file fits within info =
    let like : rela_like at file ≡ fields_like (rela_like at file) at file = rw info (simp add_assoc) in
    let s = stands (rela_like at file) at file fits within like in
    sym s.stand ∙ ap (λ (k : ℕ). take k (drop at file)) (length-reloc_bytes (reloc_at at file))

pub relocs_taken : (n at : ℕ) (file : List ℕ) → IsBytes file → at + 24 * n ≤ length file → are_relative n at file ≡ true
    → flat_map reloc_bytes (relocs_at n at file) ≡ take (24 * n) (drop at file)
unfolding are_relative
relocs_taken zero at file fits within relative = nothing 24 at file
relocs_taken (suc n) at file fits within relative =
    let r = both (number_at 8 (at + 8) file == 1027) (are_relative n (at + 24) file) relative in
    one_more n at 24 file (reloc_bytes (reloc_at at file)) (flat_map reloc_bytes (relocs_at n (at + 24) file))
    (reloc_taken at file fits (omega arith) (eqb-true (number_at 8 (at + 8) file) 1027 r.0))
    (relocs_taken n (at + 24) file fits (omega arith) r.1)

-- relocations that stand there are relative
pub relocs_relative : (rs : List RelativeReloc) (at : ℕ) (file rest : List ℕ) → AllByRecursion RelocFits rs
    → drop at file ≡ flat_map reloc_bytes rs ++ rest → are_relative (length rs) at file ≡ true
unfolding are_relative
relocs_relative [] at file rest fit here = refl
relocs_relative (r ∷ rs) at file rest fit here =
    let fields = number 8 r.place ∷ number 8 1027 ∷ signed r.addend ∷ [] in
    let front : drop at file ≡ reloc_bytes r ++ (flat_map reloc_bytes rs ++ rest) =
    here ∙ append_assoc (reloc_bytes r) (flat_map reloc_bytes rs) rest in
    let same : fields_like fields at file ≡ fields =
    fields_again fields at file (flat_map reloc_bytes rs ++ rest) (fit.0.place, (omega arith, (fit.0.addend, tt))) front in
    let info : number_at 8 (at + 8) file ≡ 1027 = cc in
    let back : drop (at + 24) file ≡ flat_map reloc_bytes rs ++ rest =
    sym (drop-drop 24 at file) ∙ ap (drop 24) front ∙ drop_at (reloc_bytes r) (flat_map reloc_bytes rs ++ rest) 24 (length-reloc_bytes r) in
    both_hold _ _ (eq-eqb (number_at 8 (at + 8) file) 1027 info) (relocs_relative rs (at + 24) file rest fit.1 back)

-- ---- dynamic entries

-- these entries stand one after the other, from that number on
abbrev pub AreEntries : List ℕ → ℕ → ℕ → List Dyn → Type 0
AreEntries file at i [] = Unit {0}
AreEntries file at i (d ∷ ds) = (dyn_at (at + 16 * i) file ≡ d) × AreEntries file at (i + 1) ds

-- entries, and others behind them
pub entries_append : (ds es : List Dyn) (at i : ℕ) (file : List ℕ) → AreEntries file at i ds → AreEntries file at (i + length ds) es
    → AreEntries file at i (ds ++ es)
entries_append [] es at i file front back = subst (λ (k : ℕ). AreEntries file at k es) (omega arith) back
entries_append (d ∷ ds) es at i file front back =
    let next : i + length (d ∷ ds) ≡ i + 1 + length ds = omega arith in
    (front.0, entries_append ds es at (i + 1) file front.1 (subst (λ (k : ℕ). AreEntries file at k es) next back))

pub entries_front : (ds es : List Dyn) (at i : ℕ) (file : List ℕ) → AreEntries file at i (ds ++ es) → AreEntries file at i ds
entries_front [] es at i file are = tt
entries_front (d ∷ ds) es at i file are = (are.0, entries_front ds es at (i + 1) file are.1)

pub entries_back : (ds es : List Dyn) (at i : ℕ) (file : List ℕ) → AreEntries file at i (ds ++ es)
    → AreEntries file at (i + length ds) es
entries_back [] es at i file are = subst (λ (k : ℕ). AreEntries file at k es) (omega arith) are
entries_back (d ∷ ds) es at i file are =
    let next : i + 1 + length ds ≡ i + length (d ∷ ds) = omega arith in
    subst (λ (k : ℕ). AreEntries file at k es) next (entries_back ds es at (i + 1) file are.1)

dyn_taken : (at : ℕ) (file : List ℕ) → IsBytes file → at + 16 ≤ length file → dyn_bytes (dyn_at at file) ≡ take 16 (drop at file)
unfolding dyn_bytes
dyn_taken at file fits within =
    let s = stands (dyn_fields (dyn_at at file)) at file fits within refl in
    sym s.stand ∙ ap (λ (k : ℕ). take k (drop at file)) (length-dyn (dyn_at at file))

pub entries_taken : (ds : List Dyn) (at i : ℕ) (file : List ℕ) → IsBytes file → at + 16 * i + 16 * length ds ≤ length file
    → AreEntries file at i ds → entries_bytes ds ≡ take (16 * length ds) (drop (at + 16 * i) file)
unfolding entries_bytes
entries_taken [] at i file fits within are = nothing 16 (at + 16 * i) file
entries_taken (d ∷ ds) at i file fits within are =
    let next : at + 16 * (i + 1) ≡ at + 16 * i + 16 = omega arith in
    one_more (length ds) (at + 16 * i) 16 file (dyn_bytes d) (entries_bytes ds)
    (ap dyn_bytes (sym are.0) ∙ dyn_taken (at + 16 * i) file fits (omega arith))
    (entries_taken ds at (i + 1) file fits (omega arith) are.1 ∙ ap (λ (k : ℕ). take (16 * length ds) (drop k file)) next)

-- entries that stand there are read again
pub entries_again : (ds : List Dyn) (at i : ℕ) (file rest : List ℕ) → AllByRecursion EntryFits ds
    → drop (at + 16 * i) file ≡ entries_bytes ds ++ rest → AreEntries file at i ds
unfolding entries_bytes dyn_bytes
entries_again [] at i file rest fit here = tt
entries_again (d ∷ ds) at i file rest fit here =
    let front : drop (at + 16 * i) file ≡ dyn_bytes d ++ (entries_bytes ds ++ rest) =
    here ∙ append_assoc (dyn_bytes d) (entries_bytes ds) rest in
    let stands_there : StandsAt file (at + 16 * i) (bytes_of (dyn_fields d)) =
    ap (take (length (bytes_of (dyn_fields d)))) front
    ∙ take_at (bytes_of (dyn_fields d)) (entries_bytes ds ++ rest) (length (bytes_of (dyn_fields d))) refl in
    let next : at + 16 * (i + 1) ≡ at + 16 * i + 16 = omega arith in
    let back : drop (at + 16 * (i + 1)) file ≡ entries_bytes ds ++ rest =
    ap (λ (k : ℕ). drop k file) next ∙ sym (drop-drop 16 (at + 16 * i) file) ∙ ap (drop 16) front
    ∙ drop_at (dyn_bytes d) (entries_bytes ds ++ rest) 16 (length-dyn d) in
    (dyn_again file (at + 16 * i) d (fit.0.tag, (fit.0.value, tt)) stands_there, entries_again ds at (i + 1) file rest fit.1 back)
