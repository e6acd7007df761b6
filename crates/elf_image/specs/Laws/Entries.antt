-- The bytes of dynamic entries, one after the other.
use Rattle.std.proofs.Common.{◌≡◌, ℕ, ◌+◌, ◌*◌, List, [], ◌∷◌, ◌++◌, length, refl, sym, ap, ◌∙◌, arith, append_assoc, length-append}
use Rattle.elf_base.specs.declared.dynamic.Dyn.{Dyn}
use Rattle.elf_base.specs.Laws.Lengths.{length-dyn}
use Rattle.elf_image.specs.Image.{Image}
use Rattle.elf_image.specs.Places.{dynamic_count, descriptors_place}
use Rattle.elf_image.specs.Pieces.{dyn_bytes, entries_bytes, descriptor_entries, dynamic_entries}
use Rattle.elf_image.specs.Records.{table_entries, mode_entries, last_entries}

pub entries_bytes-append : (ds es : List Dyn) → entries_bytes (ds ++ es) ≡ entries_bytes ds ++ entries_bytes es
unfolding entries_bytes
entries_bytes-append [] es = refl
entries_bytes-append (d ∷ ds) es =
    ap (λ (l : List ℕ). dyn_bytes d ++ l) (entries_bytes-append ds es) ∙ sym (append_assoc (dyn_bytes d) (entries_bytes ds)
    (entries_bytes es))

-- some entries more
pub entries_bytes-more : (out : List ℕ) (ds es : List Dyn) → (out ++ entries_bytes ds) ++ entries_bytes es ≡ out ++ entries_bytes (ds ++ es)
entries_bytes-more out ds es =
    append_assoc out (entries_bytes ds) (entries_bytes es) ∙ ap (λ (l : List ℕ). out ++ l) (sym (entries_bytes-append ds es))

-- what is put for a table of entries, for those of the modes, for those of the descriptors and for the last one is all
pub all_entries : (p : Image) (out : List ℕ)
    → (((out ++ entries_bytes (table_entries (24 * length p.relocs))) ++ entries_bytes mode_entries)
    ++ entries_bytes (descriptor_entries (descriptors_place p) p.descriptors)) ++ entries_bytes last_entries
    ≡ out ++ entries_bytes (dynamic_entries p)
all_entries p out =
    let ts = table_entries (24 * length p.relocs) in
    let ds = descriptor_entries (descriptors_place p) p.descriptors in
    entries_bytes-more ((out ++ entries_bytes ts) ++ entries_bytes mode_entries) ds last_entries
    ∙ entries_bytes-more (out ++ entries_bytes ts) mode_entries (ds ++ last_entries)
    ∙ entries_bytes-more out ts (mode_entries ++ ds ++ last_entries)

pub length-dyn_bytes : (d : Dyn) → length (dyn_bytes d) ≡ 16
unfolding dyn_bytes
length-dyn_bytes d = length-dyn d

pub length-entries_bytes : (ds : List Dyn) → length (entries_bytes ds) ≡ 16 * length ds
unfolding entries_bytes
length-entries_bytes [] = refl
length-entries_bytes (d ∷ ds) = omega (arith, length-append (dyn_bytes d) (entries_bytes ds), length-dyn_bytes d, length-entries_bytes ds)

count : (place : ℕ) (ds : List ℕ) → 10 + (length (descriptor_entries place ds) + 1) ≡ dynamic_count ds
count place [] = refl
count place (d ∷ ds) = refl

pub length-dynamic_entries : (p : Image) → length (entries_bytes (dynamic_entries p)) ≡ 16 * dynamic_count p.descriptors
length-dynamic_entries p =
    let place = descriptors_place p in
    let last = length-append (descriptor_entries place p.descriptors) last_entries in
    omega (arith, length-entries_bytes (dynamic_entries p), count place p.descriptors, last)
